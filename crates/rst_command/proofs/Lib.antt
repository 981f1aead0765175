mod HasWord
