-- Where every signal is NotConstant, an answer is the one where signals may stand, if that names none, and a fault if it names one.
use Rattle.std.proofs.Common.{◌≡◌, ◌∙◌, Bool, true, false, ◌||◌, cond, Result, Ok, Err, refl, ap, subst}
use Rattle.rst_word.specs.declared.ops.BinaryOp.{BinaryOp}
use Rattle.rst_word.specs.declared.ops.UnaryOp.{UnaryOp}
use Rattle.rst_width.specs.declared.typed_expr.Shape.{Shape}
use Rattle.rst_width.specs.declared.typed_expr.WidthFault.{WidthFault}
use Rattle.rst_width.specs.declared.typed_expr.WidthFault.TheVariants.{TooWide, NotConstant, ZeroDivisor}
use Rattle.std.proofs.Common.{nat_lt, nat_eq, ◌&&◌}
use Rattle.rst_width.specs.Typed.{Typed, Node, typed, names_signal, node_names}
use Rattle.rst_width.specs.Typed as node
use Rattle.rst_width.specs.Values.{constant_word}
use Rattle.rst_width.specs.Sized.{Answer, Sized, Found, Leaf, Unary, Binary, Shift, Choose, Earlier, Own, Good, own, larger, brought, in_context, by_itself, operated, is_division, ◌>>=◌}

-- every good result names a signal
abbrev pub Named : {A : Type 0} → (A → Bool) → Result A WidthFault → Type 0
Named names (Ok x) = names x ≡ true
Named names (Err e) = Unit {0}

-- results with signals allowed, and with every signal NotConstant
abbrev pub Agree : {A : Type 0} → (A → Bool) → Result A WidthFault → Result A WidthFault → Type 0
Agree names (Ok x) (Ok y) = (x ≡ y) × (names x ≡ false)
Agree names (Ok x) (Err e) = names x ≡ true
Agree names (Err d) (Ok y) = ⊥
Agree names (Err d) (Err e) = Unit {0}

-- by cases on a test
pub on : (b : Bool) (P : Bool → Type 0) → P true → P false → P b
on true P h k = h
on false P h k = k

pub both_false : (a b : Bool) → a ≡ false → b ≡ false → (a || b) ≡ false
both_false a b h k = rw (h, k) refl

pub left_true : (a b : Bool) → a ≡ true → (a || b) ≡ true
left_true a b h = rw h refl

pub right_true : (a b : Bool) → b ≡ true → (a || b) ≡ true
right_true true b h = refl
right_true false b h = h

pub named_agrees : {A : Type 0} (names : A → Bool) (r : Result A WidthFault) (e : WidthFault) → Named names r → Agree names r (Err e)
named_agrees names (Ok x) e h = h
named_agrees names (Err d) e h = tt

pub named_bind : {A B : Type 0} (names : B → Bool) (r : Result A WidthFault) (f : A → Result B WidthFault) → ((x : A) → Named names (f x)) → Named names (r >>= f)
named_bind names (Ok x) f h = h x
named_bind names (Err d) f h = tt

pub bind_agree : {A B : Type 0} (n : A → Bool) (m : B → Bool) (r s : Result A WidthFault) (f g : A → Result B WidthFault) → Agree n r s
    → ((x : A) → n x ≡ false → Agree m (f x) (g x)) → ((x : A) → n x ≡ true → Named m (f x)) → Agree m (r >>= f) (s >>= g)
bind_agree {A} n m (Ok x) (Ok y) f g h k l = subst (λ (z : A). Agree m (f x) (g z)) h.0 (k x h.1)
bind_agree n m (Ok x) (Err e) f g h k l = named_agrees m (f x) e (l x h)
bind_agree n m (Err d) (Ok y) f g h k l = absurd h
bind_agree n m (Err d) (Err e) f g h k l = tt

-- a place where everything that stands there names a signal, and one where nothing stands
abbrev pub NamedFound : Found → Type 0
NamedFound (Earlier e) = Unit {0}
NamedFound (Own e) = Unit {0}
NamedFound (Good n) = node_names n ≡ true

abbrev pub IsFault : Found → Type 0
IsFault (Earlier e) = Unit {0}
IsFault (Own e) = Unit {0}
IsFault (Good n) = ⊥

abbrev pub AgreeFound : Found → Found → Type 0
AgreeFound (Good n) (Good m) = (n ≡ m) × (node_names n ≡ false)
AgreeFound (Good n) (Earlier e) = node_names n ≡ true
AgreeFound (Good n) (Own e) = node_names n ≡ true
AgreeFound (Earlier d) (Good m) = ⊥
AgreeFound (Earlier d) (Earlier e) = Unit {0}
AgreeFound (Earlier d) (Own e) = Unit {0}
AgreeFound (Own d) (Good m) = ⊥
AgreeFound (Own d) (Earlier e) = Unit {0}
AgreeFound (Own d) (Own e) = Unit {0}

pub fault_agrees : (f g : Found) → NamedFound f → IsFault g → AgreeFound f g
fault_agrees (Good n) (Good m) h k = absurd k
fault_agrees (Good n) (Earlier e) h k = h
fault_agrees (Good n) (Own e) h k = h
fault_agrees (Earlier d) (Good m) h k = absurd k
fault_agrees (Earlier d) (Earlier e) h k = tt
fault_agrees (Earlier d) (Own e) h k = tt
fault_agrees (Own d) (Good m) h k = absurd k
fault_agrees (Own d) (Earlier e) h k = tt
fault_agrees (Own d) (Own e) h k = tt

-- sized with signals allowed, and with every signal NotConstant
pub data AgreeSized : Sized → Sized → Type 0 where
  leaf : (shape other : Shape) (f g : Found) → shape ≡ other → AgreeFound f g → AgreeSized (Leaf shape f) (Leaf other g)
  unary : (op : UnaryOp) (a b : Sized) → AgreeSized a b → AgreeSized (Unary op a) (Unary op b)
  binary : (op : BinaryOp) (a b c d : Sized) → AgreeSized a b → AgreeSized c d → AgreeSized (Binary op a c) (Binary op b d)
  shift : (op : BinaryOp) (a b : Sized) (x y : Answer) → AgreeSized a b → Agree names_signal x y → AgreeSized (Shift op a x) (Shift op b y)
  choose : (x y : Answer) (a b c d : Sized) → Agree names_signal x y → AgreeSized a b → AgreeSized c d → AgreeSized (Choose x a c) (Choose y b d)

pub own_agree : {s t : Sized} → AgreeSized s t → own s ≡ own t
own_agree (leaf shape other f g e h) = e
own_agree (unary op a b h) = own_agree h
own_agree (binary op a b c d h k) = ap (λ (x : Shape). larger x (own c)) (own_agree h) ∙ ap (λ (x : Shape). larger (own b) x) (own_agree k)
own_agree (shift op a b x y h k) = own_agree h
own_agree (choose x y a b c d e h k) = ap (λ (x : Shape). larger x (own c)) (own_agree h) ∙ ap (λ (x : Shape). larger (own b) x) (own_agree k)

brought_names : (shape : Shape) (n : Node) (context : Shape) → names_signal (brought shape n context) ≡ node_names n
brought_names shape n context =
    on (nat_lt shape.width context.width) (λ b. names_signal (cond b (typed context (node.Extend (typed shape n))) (typed context n)) ≡ node_names n) refl refl

leaf_agree : (shape : Shape) (f g : Found) (context : Shape) → AgreeFound f g
    → Agree names_signal (in_context true (Leaf shape f) context) (in_context true (Leaf shape g) context)
leaf_agree shape (Good n) (Good m) context h =
    on (nat_lt 64 context.width) (λ b. Agree names_signal (cond b (Err TooWide) (Ok (brought shape n context))) (cond b (Err TooWide) (Ok (brought shape m context))))
    tt (ap (λ (z : Node). brought shape z context) h.0, brought_names shape n context ∙ h.1)
leaf_agree shape (Good n) (Earlier e) context h =
    on (nat_lt 64 context.width) (λ b. Agree names_signal (cond b (Err TooWide) (Ok (brought shape n context))) (Err e)) tt (brought_names shape n context ∙ h)
leaf_agree shape (Good n) (Own e) context h =
    on (nat_lt 64 context.width) (λ b. Agree names_signal (cond b (Err TooWide) (Ok (brought shape n context))) (cond b (Err TooWide) (Err e)))
    tt (brought_names shape n context ∙ h)
leaf_agree shape (Earlier d) (Good m) context h = absurd h
leaf_agree shape (Earlier d) (Earlier e) context h = tt
leaf_agree shape (Earlier d) (Own e) context h = on (nat_lt 64 context.width) (λ b. Agree names_signal (Err d) (cond b (Err TooWide) (Err e))) tt tt
leaf_agree shape (Own d) (Good m) context h = absurd h
leaf_agree shape (Own d) (Earlier e) context h = on (nat_lt 64 context.width) (λ b. Agree names_signal (cond b (Err TooWide) (Err d)) (Err e)) tt tt
leaf_agree shape (Own d) (Own e) context h =
    on (nat_lt 64 context.width) (λ b. Agree names_signal (cond b (Err TooWide) (Err d)) (cond b (Err TooWide) (Err e))) tt tt

-- an operator over operands that name no signal, and over operands of which one names one
operated_agree : (op : BinaryOp) (context : Shape) (x y : Typed) → (names_signal x || names_signal y) ≡ false
    → Agree names_signal (operated true context op x y) (operated true context op x y)
operated_agree op context x y h =
    let made : Answer = Ok (typed context (node.Binary op x y)) in
    let tested : Answer = cond (true && nat_eq (constant_word y).value 0) (Err ZeroDivisor) made in
    on (is_division op) (λ b. Agree names_signal (cond b (cond (names_signal x || names_signal y) (Err NotConstant) tested) made) (cond b (cond (names_signal x || names_signal y) (Err NotConstant) tested) made))
    (on (names_signal x || names_signal y) (λ b. Agree names_signal (cond b (Err NotConstant) tested) (cond b (Err NotConstant) tested)) tt
    (on (true && nat_eq (constant_word y).value 0) (λ b. Agree names_signal (cond b (Err ZeroDivisor) made) (cond b (Err ZeroDivisor) made)) tt (refl, h)))
    (refl, h)

operated_named : (op : BinaryOp) (context : Shape) (x y : Typed) → (names_signal x || names_signal y) ≡ true
    → Named names_signal (operated true context op x y)
operated_named op context x y h =
    let made : Answer = Ok (typed context (node.Binary op x y)) in
    let tested : Answer = cond (true && nat_eq (constant_word y).value 0) (Err ZeroDivisor) made in
    on (is_division op) (λ b. Named names_signal (cond b (cond (names_signal x || names_signal y) (Err NotConstant) tested) made))
    (on (names_signal x || names_signal y) (λ b. Named names_signal (cond b (Err NotConstant) tested)) tt
    (on (true && nat_eq (constant_word y).value 0) (λ b. Named names_signal (cond b (Err ZeroDivisor) made)) tt h))
    h

pub in_context_agree : {s t : Sized} (context : Shape) → AgreeSized s t → Agree names_signal (in_context true s context) (in_context true t context)
in_context_agree context (leaf shape other f g e h) =
    subst (λ (z : Shape). Agree names_signal (in_context true (Leaf shape f) context) (in_context true (Leaf z g) context)) e (leaf_agree shape f g context h)
in_context_agree context (unary op a b h) =
    bind_agree names_signal names_signal (in_context true a context) (in_context true b context) _ _ (in_context_agree context h) (λ x k. (refl, k)) (λ x k. k)
in_context_agree context (binary op a b c d h k) =
    bind_agree names_signal names_signal (in_context true a context) (in_context true b context)
    (λ x. in_context true c context >>= λ y. operated true context op x y) (λ x. in_context true d context >>= λ y. operated true context op x y) (in_context_agree context h)
    (λ x p. bind_agree names_signal names_signal (in_context true c context) (in_context true d context)
    (λ y. operated true context op x y) (λ y. operated true context op x y) (in_context_agree context k)
    (λ y q. operated_agree op context x y (both_false _ _ p q)) (λ y q. operated_named op context x y (right_true _ _ q)))
    (λ x p. named_bind names_signal (in_context true c context) (λ y. operated true context op x y) (λ y. operated_named op context x y (left_true _ _ p)))
in_context_agree context (shift op a b r s h k) =
    bind_agree names_signal names_signal (in_context true a context) (in_context true b context)
    (λ x. r >>= λ y. Ok (typed context (node.Binary op x y))) (λ x. s >>= λ y. Ok (typed context (node.Binary op x y))) (in_context_agree context h)
    (λ x p. bind_agree names_signal names_signal r s
    (λ y. Ok (typed context (node.Binary op x y))) (λ y. Ok (typed context (node.Binary op x y))) k
    (λ y q. (refl, both_false _ _ p q)) (λ y q. right_true _ _ q))
    (λ x p. named_bind names_signal r (λ y. Ok (typed context (node.Binary op x y))) (λ y. left_true _ _ p))
in_context_agree context (choose r s a b c d e h k) =
    bind_agree names_signal names_signal r s
    (λ x. in_context true a context >>= λ y. in_context true c context >>= λ z. Ok (typed context (node.Choose x y z)))
    (λ x. in_context true b context >>= λ y. in_context true d context >>= λ z. Ok (typed context (node.Choose x y z))) e
    (λ x p. bind_agree names_signal names_signal (in_context true a context) (in_context true b context)
    (λ y. in_context true c context >>= λ z. Ok (typed context (node.Choose x y z)))
    (λ y. in_context true d context >>= λ z. Ok (typed context (node.Choose x y z))) (in_context_agree context h)
    (λ y q. bind_agree names_signal names_signal (in_context true c context) (in_context true d context)
    (λ z. Ok (typed context (node.Choose x y z))) (λ z. Ok (typed context (node.Choose x y z))) (in_context_agree context k)
    (λ z w. (refl, both_false _ _ p (both_false _ _ q w))) (λ z w. right_true _ _ (right_true _ _ w)))
    (λ y q. named_bind names_signal (in_context true c context) (λ z. Ok (typed context (node.Choose x y z))) (λ z. right_true _ _ (left_true _ _ q))))
    (λ x p. named_bind names_signal (in_context true a context)
    (λ y. in_context true c context >>= λ z. Ok (typed context (node.Choose x y z)))
    (λ y. named_bind names_signal (in_context true c context) (λ z. Ok (typed context (node.Choose x y z))) (λ z. left_true _ _ p)))

pub by_itself_agree : {s t : Sized} → AgreeSized s t → Agree names_signal (by_itself s) (by_itself t)
by_itself_agree {s} {t} h = subst (λ (o : Shape). Agree names_signal (in_context true s (own s)) (in_context true t o)) (own_agree h) (in_context_agree (own s) h)
