-- Steps of the loops that turn words around, put nodes in a row and copy a bit.
use Rattle.std.proofs.Common.{◌≡◌, ◌∙◌, ℕ, suc, ◌+◌, ◌-◌, ◌<◌, List, [], ◌∷◌, ◌++◌, length, drop, get_or, arith, ap}
use Rattle.std.specs.List.{All}
use Rattle.std.proofs.Math.Seq.{drop-length}
use Rattle.std.proofs.lemmas.List.{drop_more}
use Rattle.std.proofs.lemmas.List.Elements.{All-nil, All-cons, All-head, All-tail}
use Rattle.rst_gate.specs.GateLists.{plain_edge}
use Rattle.rst_design_terms.specs.Designs.{turned_onto, turned}
use Rattle.rst_design_terms.specs.Gates.{nodes_from}
use Rattle.rst_agreement.proofs.Turned.{onto_is}

pub turned_more : {X : Type 0} (x : X) (xs : List X) → turned (x ∷ xs) ≡ turned xs ++ x ∷ []
turned_more x xs = onto_is xs (x ∷ [])

-- one element more is turned around
pub turned_step : {X : Type 0} (xs : List X) (k : ℕ) (d : X) → k < length xs
    → turned (drop (length xs - (k + 1)) xs) ≡ turned (drop (length xs - k) xs) ++ get_or xs (length xs - 1 - k) d ∷ []
turned_step xs k d h =
    let j : ℕ = length xs - (k + 1) in
    let at : j ≡ length xs - 1 - k = omega arith in
    let next : j + 1 ≡ length xs - k = omega (arith, h) in
    let below : j < length xs = omega (arith, h) in
    ap turned (drop_more xs j d below)
    ∙ (turned_more (get_or xs j d) (drop (j + 1) xs) ∙ (λ i. turned (drop (next i) xs) ++ get_or xs (at i) d ∷ []))

pub turned_begin : {X : Type 0} (xs : List X) → turned (drop (length xs - 0) xs) ≡ []
turned_begin xs = let e : length xs - 0 ≡ length xs = omega arith in ap (λ k. turned (drop k xs)) e ∙ ap turned (drop-length xs)

pub turned_end : {X : Type 0} (xs : List X) (n : ℕ) → n ≡ length xs → turned (drop (n - n) xs) ≡ turned xs
turned_end xs n h = let e : n - n ≡ 0 = omega arith in ap (λ k. turned (drop k xs)) e

-- one node more in front of others
pub nodes_step : (first width k : ℕ) → k < width
    → turned (nodes_from (first + (width - (k + 1))) (k + 1)) ≡ turned (nodes_from (first + (width - k)) k) ++ plain_edge (first + (width - 1 - k)) ∷ []
nodes_step first width k h =
    let j : ℕ = first + (width - (k + 1)) in
    let at : j ≡ first + (width - 1 - k) = omega arith in
    let next : suc j ≡ first + (width - k) = omega (arith, h) in
    let more : k + 1 ≡ suc k = omega arith in
    ap (λ n. turned (nodes_from j n)) more
    ∙ (turned_more (plain_edge j) (nodes_from (suc j) k) ∙ (λ i. turned (nodes_from (next i) k) ++ plain_edge (at i) ∷ []))

pub nodes_end : (first width k : ℕ) → k ≡ width → turned (nodes_from (first + (width - k)) k) ≡ turned (nodes_from first width)
nodes_end first width k h =
    let e : first + (width - k) ≡ first = omega (arith, h) in
    λ i. turned (nodes_from (e i) (h i))

-- what holds of each element
module _ {X : Type 0} (P : X → Type 0) where
  onto_all : (xs others : List X) → All P xs → All P others → All P (turned_onto xs others)
  onto_all [] others h k = k
  onto_all (x ∷ xs) others h k = onto_all xs (x ∷ others) (All-tail P x xs h) (All-cons P x others (All-head P x xs h) k)

  pub turned_all : (xs : List X) → All P xs → All P (turned xs)
  turned_all xs h = onto_all xs [] h (All-nil P)
