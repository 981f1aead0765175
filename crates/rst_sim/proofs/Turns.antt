-- One more cycle of a run.
use Rattle.std.proofs.Common.{◌≡◌, ◌∙◌, ℕ, ◌<◌, ◌≤◌, ◌+◌, Bool, List, [], ◌∷◌, ◌++◌, length, drop, get_or, ap, refl, append_assoc, sym, arith, length-drop}
use Rattle.std.specs.Prelude.{slice_get, Some}
use Rattle.std.proofs.lemmas.List.{at_drop_more, nil_from_length, length-map}
use Rattle.rst_value.specs.declared.tern.Tern.{Tern}
use Rattle.rst_value.specs.Terns.{known}
use Rattle.rst_gate.specs.Machine.{Machine, IsWord, outs, after}
use Rattle.rst_gate.specs.Patterns.{IsPattern, known_pattern}
use Rattle.rst_gate.specs.TernMachine.{TernMachine, pattern_after}
use Rattle.rst_sim.specs.Trails.{pattern_trail}

pub outs_more :
    (m : Machine) (s t : List Bool) (word : List (List Bool)) (i : ℕ) (x : List Bool) (shown shown' : List (List Bool)) (o : List Bool)
    → i < length word → x ≡ get_or word i x → o ≡ m.out s x → t ≡ m.step s x → shown' ≡ shown ++ o ∷ []
    → shown ++ outs m s (drop i word) ≡ shown' ++ outs m t (drop (i + 1) word)
outs_more m s t word i x shown shown' o h is is_o is_t push =
    rw (push, is_o, is_t, append_assoc)
    (ap (λ r. shown ++ r)
    (at_drop_more (outs m s) word i x h ∙ ap (λ y. m.out s y ∷ outs m (m.step s y) (drop (i + 1) word)) (sym is)))

pub after_more :
    (m : Machine) (s t : List Bool) (word : List (List Bool)) (i : ℕ) (x : List Bool)
    → i < length word → x ≡ get_or word i x → t ≡ m.step s x
    → after m s (drop i word) ≡ after m t (drop (i + 1) word)
after_more m s t word i x h is is_t =
    rw is_t (at_drop_more (after m s) word i x h ∙ ap (λ y. after m (m.step s y) (drop (i + 1) word)) (sym is))

pub trail_more :
    (m : TernMachine) (s t : List Tern) (pattern : List (List Tern)) (i : ℕ) (x : List Tern) (states states' : List (List Tern))
    → i < length pattern → x ≡ get_or pattern i x → t ≡ m.step s x → states' ≡ states ++ s ∷ []
    → states ++ pattern_trail m s (drop i pattern) ≡ states' ++ pattern_trail m t (drop (i + 1) pattern)
trail_more m s t pattern i x states states' h is is_t push =
    rw (push, is_t, append_assoc)
    (ap (λ r. states ++ r)
    (at_drop_more (pattern_trail m s) pattern i x h ∙ ap (λ y. s ∷ pattern_trail m (m.step s y) (drop (i + 1) pattern)) (sym is)))

-- there is one state more than there are cycles
pub length-trail : (m : TernMachine) (s : List Tern) (pattern : List (List Tern)) → length (pattern_trail m s pattern) ≡ length pattern + 1
length-trail m s [] = refl
length-trail m s (places ∷ pattern) = omega (arith, length-trail m (m.step s places) pattern)

-- the last of the states is the one behind the pattern
pub last-trail :
    (m : TernMachine) (s : List Tern) (pattern : List (List Tern))
    → slice_get (pattern_trail m s pattern) (length pattern) ≡ Some (pattern_after m s pattern)
last-trail m s [] = refl
last-trail m s (places ∷ pattern) = last-trail m (m.step s places) pattern

-- the states of a whole run, from those before its last state
pub trail_end :
    (m : TernMachine) (start s : List Tern) (pattern : List (List Tern)) (i : ℕ) (states states' : List (List Tern))
    → length pattern ≤ i → pattern_trail m start pattern ≡ states ++ pattern_trail m s (drop i pattern) → states' ≡ states ++ s ∷ []
    → states' ≡ pattern_trail m start pattern
trail_end m start s pattern i states states' past so_far push =
    let none : drop i pattern ≡ [] = nil_from_length (drop i pattern) (omega (arith, length-drop {A = List Tern})) in
    let end : pattern_trail m start pattern ≡ states ++ s ∷ [] = rw none at so_far in
    cc

-- a word of known inputs is a pattern over the inputs, of as many cycles
pub word-pattern : (m : Machine) (word : List (List Bool)) → IsWord m word → IsPattern m (known_pattern word)
word-pattern m [] h = tt
word-pattern m (input ∷ word) h = (length-map input known ∙ h.0, word-pattern m word h.1)
