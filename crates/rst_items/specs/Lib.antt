-- What a reader has to believe: reset forms, how items and links see an instance, what items become in the flat design, and the
-- rows of refusals over them.
pub mod ResetForms
pub mod Seen
pub mod Items
pub mod ItemRows
-- How the code shows these.
pub mod Tables
