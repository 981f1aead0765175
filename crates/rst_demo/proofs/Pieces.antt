-- Pieces of a text behind one another.
use Rattle.std.proofs.Common.{◌≡◌, ℕ, List, ◌++◌, ap, ◌∙◌, append_assoc}

pub two_more : (before second third : List ℕ) (a b : List ℕ) → second ≡ before ++ a → third ≡ second ++ b → third ≡ before ++ (a ++ b)
two_more before second third a b e f = f ∙ (ap (λ text. text ++ b) e ∙ append_assoc before a b)

pub three_more : (before second third fourth : List ℕ) (a b c : List ℕ) → second ≡ before ++ a → third ≡ second ++ b → fourth ≡ third ++ c → fourth ≡ before ++ (a ++ (b ++ c))
three_more before second third fourth a b c e f g = two_more before second fourth a (b ++ c) e (two_more second third fourth b c f g)
