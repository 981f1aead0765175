-- What the row Twice keeps of a name's declarations, one declaration further.
use Rattle.std.proofs.Common.{◌≡◌, ℕ, ◌+◌, Bool, true, false, not, cond, List, [], ◌∷◌, ◌++◌, take, drop, Option, Some, None, slice_get, refl, sym, ap, ◌∙◌, Bor}
use Rattle.std.specs.Option.{option_map, option_copied}
use Rattle.std.proofs.lemmas.List.Elements.{filter-append}
use Rattle.rst_tree.specs.Trees.{Text}
use Rattle.rst_names.specs.declared.faults.ElabCode.TheVariants as code
use Rattle.rst_names.specs.Faults.{Fault, fault_if, fault_at}
use Rattle.rst_names.specs.Names.{same_text}
use Rattle.rst_names.specs.Declarations.{Declaration, of_name}
use Rattle.rst_names.proofs.Turns.{at}
use Rattle.rst_name_faults.specs.declared.declaring.Seen.{Seen}
use Rattle.rst_name_faults.specs.NameRows.{may_follow, twice_behind}
use Rattle.rst_name_faults.specs.Tables.{plain_seen, kept_of, follows, seen_next, seen_after}

-- what is found is what is kept
pub seen_copied : (r : Option (Bor Seen)) → option_map (λ (s : Bor Seen). plain_seen s.now) r ≡ option_map plain_seen (option_copied r)
seen_copied None = refl
seen_copied (Some s) = refl

-- the test by what is kept is the test by all
pub follows-kept : (ds : List Declaration) (d : Declaration) → follows (kept_of ds) d ≡ may_follow ds d
follows-kept [] d = refl
follows-kept (a ∷ []) d = refl
follows-kept (a ∷ b ∷ []) d = refl
follows-kept (a ∷ b ∷ c ∷ ds) d = refl

kept-push : (ds : List Declaration) (d : Declaration) → kept_of (ds ++ d ∷ []) ≡ Some (seen_next (kept_of ds) d)
kept-push [] d = refl
kept-push (a ∷ []) d = refl
kept-push (a ∷ b ∷ []) d = refl
kept-push (a ∷ b ∷ c ∷ ds) d = refl

module _ (ds : List Declaration) (i : ℕ) (d : Declaration) (is : slice_get ds i ≡ Some d) where
  -- what is kept of each name
  pub kept_more : (q : Text) → kept_of (of_name q (take (i + 1) ds)) ≡ seen_after (kept_of (of_name q (take i ds))) (same_text d.name q) d
  kept_more q =
      ap (λ l. kept_of (of_name q l)) (at ds i d is).front
      ∙ ap kept_of (filter-append (λ e. same_text e.name q) (take i ds) (d ∷ []))
      ∙ by (same_text d.name q)
    where
      by : (b : Bool) → kept_of (of_name q (take i ds) ++ cond b (d ∷ []) []) ≡ seen_after (kept_of (of_name q (take i ds))) b d
      by true = kept-push (of_name q (take i ds)) d
      by false = ap kept_of (append-nil (of_name q (take i ds)))
        where
          append-nil : (l : List Declaration) → l ++ [] ≡ l
          append-nil [] = refl
          append-nil (x ∷ xs) = ap (λ l. x ∷ l) (append-nil xs)

  -- what is left of the row
  pub twice_opened : twice_behind (take i ds) (drop i ds) ≡ fault_if (not (may_follow (of_name d.name (take i ds)) d)) code.Twice d.name 0 ++ twice_behind (take (i + 1) ds) (drop (i + 1) ds)
  twice_opened =
      ap (twice_behind (take i ds)) (at ds i d is).back
      ∙ ap (λ l. fault_if (not (may_follow (of_name d.name (take i ds)) d)) code.Twice d.name 0 ++ twice_behind l (drop (i + 1) ds)) (sym (at ds i d is).front)

  abbrev left : List Fault
  left = twice_behind (take (i + 1) ds) (drop (i + 1) ds)

  pub twice_refuses : (b : Bool) → b ≡ may_follow (of_name d.name (take i ds)) d → b ≡ false → twice_behind (take i ds) (drop i ds) ≡ fault_at code.Twice d.name 0 ∷ twice_behind (take (i + 1) ds) (drop (i + 1) ds)
  twice_refuses b told other = twice_opened ∙ ap (λ t. fault_if (not t) code.Twice d.name 0 ++ left) (sym told ∙ other)

  pub twice_goes_on : (b : Bool) → b ≡ may_follow (of_name d.name (take i ds)) d → b ≡ true → twice_behind (take i ds) (drop i ds) ≡ twice_behind (take (i + 1) ds) (drop (i + 1) ds)
  twice_goes_on b told same = twice_opened ∙ ap (λ t. fault_if (not t) code.Twice d.name 0 ++ left) (sym told ∙ same)
