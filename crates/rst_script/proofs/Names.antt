-- The set of the names that were met.
use Rattle.std.proofs.Common.{◌≡◌, ℕ, ◌+◌, ◌<◌, Bool, true, false, not, ◌||◌, List, [], ◌∷◌, ◌++◌, length, get_or, map, take, drop, refl, sym, ap, ◌∙◌}
use Rattle.std.proofs.lemmas.List.{take_more, map-append}
use Rattle.std.specs.List.{list_any}
use Rattle.std.specs.Ordering.{nat_cmp, is_eq, match_ordering}
use Rattle.std.specs.declared.cmp.Ordering.{Ordering}
use Rattle.std.specs.declared.cmp.Ordering.TheVariants.{Less, Equal, Greater}
use Rattle.std.specs.Cmp.Lexicographic.{slice_cmp}
use Rattle.std.specs.Str.{bytes_eq}
use Rattle.std.specs.BTreeSet.{insert_key}
use Rattle.std.proofs.lemmas.Map.Text.{is_eq-slice_cmp}
use Rattle.std.proofs.lemmas.Slice.Eq.{bytes_eq-Decides}
use denote.Ref.{Bor}
use Rattle.rst_script.specs.declared.script.Setting.{Setting}
use Rattle.rst_script.specs.Steps.{names_set, is_met, has_twice}
use Rattle.rst_script.proofs.Rests.{next_of}

-- whether a key of the set has this name
abbrev pub is_key : List (Bor (List ℕ)) → List ℕ → Bool
is_key keys name = list_any (λ (key : Bor (List ℕ)). bytes_eq name key.now) keys

-- the order of the keys
abbrev pub key_cmp : Bor (List ℕ) → Bor (List ℕ) → Ordering
key_cmp a b = slice_cmp nat_cmp a.now b.now

or_swap : (a b c : Bool) → (a || (b || c)) ≡ (b || (a || c))
or_swap true true c = refl
or_swap true false c = refl
or_swap false b c = refl

or_same : (a c : Bool) → (a || c) ≡ (a || (a || c))
or_same true c = refl
or_same false c = refl

same_from_equal : (x y : List ℕ) (o : Ordering) → o ≡ slice_cmp nat_cmp x y → o ≡ Equal → x ≡ y
same_from_equal x y o e f = (bytes_eq-Decides x y).0 (sym (is_eq-slice_cmp x y) ∙ (ap is_eq (sym e) ∙ ap is_eq f))

insert_at : (name : List ℕ) (key x : Bor (List ℕ)) (keys rest : List (Bor (List ℕ))) (o : Ordering) → (o ≡ Equal → key.now ≡ x.now)
    → is_key rest name ≡ (bytes_eq name key.now || is_key keys name)
    → is_key (match_ordering o (key ∷ x ∷ keys) (x ∷ keys) (x ∷ rest)) name ≡ (bytes_eq name key.now || is_key (x ∷ keys) name)
insert_at name key x keys rest Less same e = refl
insert_at name key x keys rest Equal same e =
    or_same (bytes_eq name x.now) (is_key keys name) ∙ ap (λ bytes. bytes_eq name bytes || is_key (x ∷ keys) name) (sym (same refl))
insert_at name key x keys rest Greater same e =
    ap (λ found. bytes_eq name x.now || found) e ∙ or_swap (bytes_eq name x.now) (bytes_eq name key.now) (is_key keys name)

-- a set with one more key has that key and those it had
pub is_key-insert : (name : List ℕ) (key : Bor (List ℕ)) (keys : List (Bor (List ℕ))) → is_key (insert_key key_cmp keys key) name ≡ (bytes_eq name key.now || is_key keys name)
is_key-insert name key [] = refl
is_key-insert name key (x ∷ keys) =
    insert_at name key x keys (insert_key key_cmp keys key) (key_cmp key x) (same_from_equal key.now x.now (key_cmp key x) refl) (is_key-insert name key keys)

-- what a set's look-up by comparison finds
pub is_key-contains : (key : Bor (List ℕ)) (keys : List (Bor (List ℕ))) → list_any (λ (other : Bor (List ℕ)). is_eq (key_cmp key other)) keys ≡ is_key keys key.now
is_key-contains key [] = refl
is_key-contains key (x ∷ keys) =
    ap (λ first. first || list_any (λ (other : Bor (List ℕ)). is_eq (key_cmp key other)) keys) (is_eq-slice_cmp key.now x.now)
    ∙ ap (λ others. bytes_eq key.now x.now || others) (is_key-contains key keys)

pub is_met-push : (names : List (List ℕ)) (last name : List ℕ) → is_met (names ++ last ∷ []) name ≡ (bytes_eq name last || is_met names name)
is_met-push [] last name = refl
is_met-push (first ∷ names) last name =
    ap (λ found. bytes_eq name first || found) (is_met-push names last name) ∙ or_swap (bytes_eq name first) (bytes_eq name last) (is_met names name)

map_more : {A B : Type 0} (f : A → B) (xs : List A) (i : ℕ) (x : A) → i < length xs → x ≡ get_or xs i x → map f (take (i + 1) xs) ≡ map f (take i xs) ++ f x ∷ []
map_more f xs i x h e =
    ap (map f) (take_more xs i x h ∙ ap (λ last. take i xs ++ last ∷ []) (sym e)) ∙ map-append f (take i xs) (x ∷ [])

-- the set of the names that were met, with one name more
pub met_more : (settings : List Setting) (i : ℕ) (setting : Setting) (old new : List (Bor (List ℕ))) (key : Bor (List ℕ)) → i < length settings → setting ≡ get_or settings i setting
    → key.now ≡ setting.name → new ≡ insert_key key_cmp old key → ((name : List ℕ) → is_key old name ≡ is_met (names_set (take i settings)) name)
    → (name : List ℕ) → is_key new name ≡ is_met (names_set (take (i + 1) settings)) name
met_more settings i setting old new key h e same inserted met name =
    ap (λ (keys : List (Bor (List ℕ))). is_key keys name) inserted
    ∙ (is_key-insert name key old
    ∙ (ap (λ found. bytes_eq name key.now || found) (met name)
    ∙ (ap (λ bytes. bytes_eq name bytes || is_met (names_set (take i settings)) name) same
    ∙ (sym (is_met-push (names_set (take i settings)) setting.name name)
    ∙ ap (λ names. is_met names name) (sym (map_more (λ (it : Setting). it.name) settings i setting h e))))))

key_met : (settings : List Setting) (i : ℕ) (setting : Setting) (keys : List (Bor (List ℕ))) (key : Bor (List ℕ)) (found : Bool) → key.now ≡ setting.name
    → list_any (λ (other : Bor (List ℕ)). is_eq (key_cmp key other)) keys ≡ found → ((name : List ℕ) → is_key keys name ≡ is_met (names_set (take i settings)) name)
    → is_met (names_set (take i settings)) setting.name ≡ found
key_met settings i setting keys key found same looked met =
    ap (is_met (names_set (take i settings))) (sym same) ∙ (sym (met key.now) ∙ (sym (is_key-contains key keys) ∙ looked))

pub not_false : (b : Bool) → false ≡ not b → b ≡ true
not_false true e = refl
not_false false e = absurd (cc)

pub not_true : (b : Bool) → true ≡ not b → b ≡ false
not_true true e = absurd (cc)
not_true false e = refl

-- the setting at hand, and those behind it
pub twice_more : (settings : List Setting) (i : ℕ) (setting : Setting) (keys : List (Bor (List ℕ))) (key : Bor (List ℕ)) (found : Bool) → i < length settings
    → setting ≡ get_or settings i setting → key.now ≡ setting.name
    → list_any (λ (other : Bor (List ℕ)). is_eq (key_cmp key other)) keys ≡ found → ((name : List ℕ) → is_key keys name ≡ is_met (names_set (take i settings)) name)
    → has_twice (names_set (take i settings)) (names_set (drop i settings)) ≡ (found || has_twice (names_set (take (i + 1) settings)) (names_set (drop (i + 1) settings)))
twice_more settings i setting keys key found h e same looked met =
    ap (λ (left : List Setting). has_twice (names_set (take i settings)) (names_set left)) (next_of settings i setting h e)
    ∙ (ap (λ b. b || has_twice (names_set (take i settings) ++ setting.name ∷ []) (names_set (drop (i + 1) settings))) (key_met settings i setting keys key found same looked met)
    ∙ ap (λ names. found || has_twice names (names_set (drop (i + 1) settings))) (sym (map_more (λ (it : Setting). it.name) settings i setting h e)))
