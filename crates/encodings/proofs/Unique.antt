-- No octets spell two lists of values (`one-spelling`).
use Prim.Native.Nat.{ℕ, ◌/◌, ◌%◌, ◌<◌}
use mathlib.Core.Path.{◌≡◌, refl, sym, ap, ◌∙◌}
use mathlib.Core.List.{List, [], ◌∷◌, ◌++◌, append_assoc}
use mathlib.Core.Bool.{Bool}
use native.Mathlib.Omega.{arith}
use lib.ListN.{length, get_or, drop}
use lib.Dec.{leb}
use Rattle.ber_integers.specs.Digits.{horner, natural}
use Rattle.ber_tags.proofs.Written.{first-low, first-class, first_bit}
use Rattle.trees_read_back.proofs.Bools.{never}
use Rattle.encodings.specs.Values.{Values, plain, nest, definite, indefinite, Groups, last, further, Fewest, groups, lead, Tags, short, long, Lengths}
use Rattle.encodings.specs.Values.{Spells, nothing, value, container, opened}
use Rattle.encodings.specs.Values as values

heads : {a b : ℕ} {l m : List ℕ} → a ∷ l ≡ b ∷ m → a ≡ b
heads e = ap (λ (x : List ℕ). get_or x 0 0) e

tails : {a b : ℕ} {l m : List ℕ} → a ∷ l ≡ b ∷ m → l ≡ m
tails e = ap (λ (x : List ℕ). drop 1 x) e

-- fronts of one length
fronts : (a b x y : List ℕ) → length a ≡ length b → a ++ x ≡ b ++ y → (a ≡ b) × (x ≡ y)
fronts [] [] x y l e = (refl, e)
fronts [] (d ∷ b) x y l e = absurd (omega arith)
fronts (c ∷ a) [] x y l e = absurd (omega arith)
fronts (c ∷ a) (d ∷ b) x y l e =
    let r = fronts a b x y (omega arith) (tails e) in
    (ap (λ (i : ℕ). i ∷ a) (heads e) ∙ ap (λ (m : List ℕ). d ∷ m) r.0, r.1)

-- ---- tags and lengths

groups-once : {bs ds cs es : List ℕ} → Groups bs ds → Groups cs es → (x y : List ℕ) → bs ++ x ≡ cs ++ y → (ds ≡ es) × (x ≡ y)
groups-once (last h) (last k) x y e = (ap (λ (i : ℕ). i ∷ []) (heads e), tails e)
groups-once (last h) (further k g) x y e = let q = heads e in absurd (omega arith)
groups-once (further h g) (last k) x y e = let q = heads e in absurd (omega arith)
groups-once (further {d = d} {ds = ds} h g) (further {d = c} k f) x y e =
    let q = heads e in
    let r = groups-once g f x y (tails e) in
    let i : d ≡ c = omega arith in
    (ap (λ (j : ℕ). j ∷ ds) i ∙ ap (λ (l : List ℕ). c ∷ l) r.0, r.1)

fewest-once : {bs cs : List ℕ} {m n : ℕ} → Fewest bs m → Fewest cs n → (x y : List ℕ) → bs ++ x ≡ cs ++ y → (m ≡ n) × (x ≡ y)
fewest-once (groups g h) (groups f k) x y e = let r = groups-once g f x y e in (ap (horner 128 0) r.0, r.1)

lead-once : (class low class' low' : ℕ) (c c' : Bool) → low < 32 → low' < 32 → lead class c low ≡ lead class' c' low'
    → (class ≡ class') × ((low ≡ low') × (c ≡ c'))
lead-once class low class' low' c c' h k e = (
  sym (first-class class low h c) ∙ ap (λ (i : ℕ). i / 64) e ∙ first-class class' low' k c',
  (
    sym (first-low class low h c) ∙ ap (λ (i : ℕ). i % 32) e ∙ first-low class' low' k c',
    sym (first_bit class low h c) ∙ ap (λ (i : ℕ). leb 32 (i % 64)) e ∙ first_bit class' low' k c',
  ),
)

record Same (class n class' n' : ℕ) (c c' : Bool) (x y : List ℕ) : Type 0 where
  classes : class ≡ class'
  number : n ≡ n'
  bits : c ≡ c'
  rest : x ≡ y

tags-once : {t t' : List ℕ} {class n class' n' : ℕ} {c c' : Bool} → Tags t class c n → Tags t' class' c' n' → (x y : List ℕ) → t ++ x ≡ t' ++ y
    → Same class n class' n' c c' x y
tags-once (short {class = class} {number = n} {container = c} h z) (short {class = class'} {number = n'} {container = c'} k w) x y e =
    let r = lead-once class n class' n' c c' (omega arith) (omega arith) (heads e) in
    record { classes = r.0; number = r.1.0; bits = r.1.1; rest = tails e }
tags-once (short {class = class} {number = n} {container = c} h z) (long {class = class'} {container = c'} f k) x y e =
    let r = (lead-once class n class' 31 c c' (omega arith) (omega arith) (heads e)).1.0 in absurd (omega arith)
tags-once (long {class = class} {container = c} f h) (short {class = class'} {number = n'} {container = c'} k w) x y e =
    let r = (lead-once class 31 class' n' c c' (omega arith) (omega arith) (heads e)).1.0 in absurd (omega arith)
tags-once (long {class = class} {container = c} f h) (long {class = class'} {container = c'} g k) x y e =
    let r = lead-once class 31 class' 31 c c' (omega arith) (omega arith) (heads e) in
    let q = fewest-once f g x y (tails e) in
    record { classes = r.0; number = q.0; bits = r.1.1; rest = q.1 }

lengths-once : {z z' : List ℕ} {m n : ℕ} → Lengths z m → Lengths z' n → (x y : List ℕ) → z ++ x ≡ z' ++ y → (m ≡ n) × (x ≡ y)
lengths-once (values.short h) (values.short k) x y e = (heads e, tails e)
lengths-once (values.short h) (values.long ds lo hi) x y e = let q = heads e in absurd (omega arith)
lengths-once (values.long ds lo hi) (values.short k) x y e = let q = heads e in absurd (omega arith)
lengths-once (values.long ds lo hi) (values.long es lo' hi') x y e =
    let q = heads e in
    let r = fronts ds es x y (omega arith) (tails e) in
    (ap natural r.0, r.1)

not-open : {z : List ℕ} {m : ℕ} (P : Type 0) → Lengths z m → (x y : List ℕ) → z ++ x ≡ 0x80 ∷ y → P
not-open P (values.short h) x y e = let q = heads e in absurd (omega arith)
not-open P (values.long ds lo hi) x y e = let q = heads e in absurd (omega arith)

-- ---- values

-- what follows them: nothing, or a closing 00
abbrev Shut : List ℕ → Type 0
Shut [] = Unit {0}
Shut (b ∷ bs) = b ≡ 0

not-shut : {t : List ℕ} {class n : ℕ} {c : Bool} (P : Type 0) → Tags t class c n → (x y : List ℕ) → Shut x → x ≡ t ++ y → P
not-shut P (short h z) [] y w e = let q = ap length e in absurd (omega arith)
not-shut P (short h z) (b ∷ x) y w e = let q = heads e in absurd (omega arith)
not-shut P (long f h) [] y w e = let q = ap length e in absurd (omega arith)
not-shut P (long f h) (b ∷ x) y w e = let q = heads e in absurd (omega arith)

pub four : (a b c d x : List ℕ) → (a ++ (b ++ (c ++ d))) ++ x ≡ a ++ (b ++ (c ++ (d ++ x)))
four a b c d x =
    append_assoc a (b ++ (c ++ d)) x
    ∙ ap (λ (l : List ℕ). a ++ l) (append_assoc b (c ++ d) x ∙ ap (λ (l : List ℕ). b ++ l) (append_assoc c d x))

plain-is : {class class' n n' : ℕ} {a b : List ℕ} {v w : Values} → class ≡ class' → n ≡ n' → a ≡ b → v ≡ w → plain class n a v ≡ plain class' n' b w
plain-is {class} {class'} {n} {n'} {a} {b} {v} {w} p q r s =
    ap (λ (i : ℕ). plain i n a v) p ∙ ap (λ (i : ℕ). plain class' i a v) q ∙ ap (λ (l : List ℕ). plain class' n' l v) r ∙ ap (plain class' n' b) s

nest-is : (f : values.Form) {class class' n n' : ℕ} {a b v w : Values} → class ≡ class' → n ≡ n' → a ≡ b → v ≡ w → nest f class n a v ≡ nest f class' n' b w
nest-is f {class} {class'} {n} {n'} {a} {b} {v} {w} p q r s =
    ap (λ (i : ℕ). nest f i n a v) p ∙ ap (λ (i : ℕ). nest f class' i a v) q ∙ ap (λ (l : Values). nest f class' n' l v) r ∙ ap (nest f class' n' b) s

spells-once : {a b : List ℕ} {v w : Values} → Spells a v → Spells b w → (x y : List ℕ) → Shut x → Shut y → a ++ x ≡ b ++ y → (v ≡ w) × (x ≡ y)
spells-once nothing nothing x y s u e = (refl, e)
spells-once nothing (value {tag = t} {size = z} {content = c} {later = l} g k r) x y s u e = not-shut _ g x _ s (e ∙ append_assoc t (z ++ (c ++ l)) y)
spells-once nothing (container {tag = t} {size = z} {body = c} {later = l} g k i r) x y s u e = not-shut _ g x _ s (e ∙ append_assoc t (z ++ (c ++ l)) y)
spells-once nothing (opened {tag = t} {body = c} {later = l} g i r) x y s u e =
    not-shut _ g x _ s (e ∙ append_assoc t ((0x80 ∷ []) ++ (c ++ ((0 ∷ (0 ∷ [])) ++ l))) y)
spells-once (value {tag = t} {size = z} {content = c} {later = l} g k r) nothing x y s u e = not-shut _ g y _ u (sym e ∙ append_assoc t (z ++ (c ++ l)) x)
spells-once (container {tag = t} {size = z} {body = c} {later = l} g k i r) nothing x y s u e = not-shut _ g y _ u (sym e ∙ append_assoc t (z ++ (c ++ l)) x)
spells-once (opened {tag = t} {body = c} {later = l} g i r) nothing x y s u e =
    not-shut _ g y _ u (sym e ∙ append_assoc t ((0x80 ∷ []) ++ (c ++ ((0 ∷ (0 ∷ [])) ++ l))) x)
spells-once (value {tag = t} {size = z} {content = c} {later = l} g k r) (value {tag = t'} {size = z'} {content = c'} {later = l'} g' k' r') x y s u e =
    let a = tags-once g g' (z ++ (c ++ (l ++ x))) (z' ++ (c' ++ (l' ++ y))) (sym (four t z c l x) ∙ e ∙ four t' z' c' l' y) in
    let b = lengths-once k k' (c ++ (l ++ x)) (c' ++ (l' ++ y)) a.rest in
    let d = fronts c c' (l ++ x) (l' ++ y) b.0 b.1 in
    let i = spells-once r r' x y s u d.1 in
    (plain-is a.classes a.number d.0 i.0, i.1)
spells-once (value {tag = t} {size = z} {content = c} {later = l} g k r) (container {tag = t'} {size = z'} {body = c'} {later = l'} g' k' i' r') x y s u e =
    never (tags-once g g' (z ++ (c ++ (l ++ x))) (z' ++ (c' ++ (l' ++ y))) (sym (four t z c l x) ∙ e ∙ four t' z' c' l' y)).bits
spells-once (value {tag = t} {size = z} {content = c} {later = l} g k r) (opened {tag = t'} {body = c'} {later = l'} g' i' r') x y s u e =
    never (tags-once g g' (z ++ (c ++ (l ++ x))) ((0x80 ∷ []) ++ (c' ++ (((0 ∷ (0 ∷ [])) ++ l') ++ y)))
    (sym (four t z c l x) ∙ e ∙ four t' (0x80 ∷ []) c' ((0 ∷ (0 ∷ [])) ++ l') y)).bits
spells-once (container {tag = t} {size = z} {body = c} {later = l} g k i r) (value {tag = t'} {size = z'} {content = c'} {later = l'} g' k' r') x y s u e =
    never (sym (tags-once g g' (z ++ (c ++ (l ++ x))) (z' ++ (c' ++ (l' ++ y))) (sym (four t z c l x) ∙ e ∙ four t' z' c' l' y)).bits)
spells-once (container {tag = t} {size = z} {body = c} {later = l} g k i r) (container {tag = t'} {size = z'} {body = c'} {later = l'} g' k' i' r') x y s u e =
    let a = tags-once g g' (z ++ (c ++ (l ++ x))) (z' ++ (c' ++ (l' ++ y))) (sym (four t z c l x) ∙ e ∙ four t' z' c' l' y) in
    let b = lengths-once k k' (c ++ (l ++ x)) (c' ++ (l' ++ y)) a.rest in
    let d = fronts c c' (l ++ x) (l' ++ y) b.0 b.1 in
    let j = spells-once i i' [] [] tt tt (ap (λ (m : List ℕ). m ++ []) d.0) in
    let m = spells-once r r' x y s u d.1 in
    (nest-is definite a.classes a.number j.0 m.0, m.1)
spells-once (container {tag = t} {size = z} {body = c} {later = l} g k i r) (opened {tag = t'} {body = c'} {later = l'} g' i' r') x y s u e =
    not-open _ k (c ++ (l ++ x)) (c' ++ (((0 ∷ (0 ∷ [])) ++ l') ++ y))
    (tags-once g g' (z ++ (c ++ (l ++ x))) ((0x80 ∷ []) ++ (c' ++ (((0 ∷ (0 ∷ [])) ++ l') ++ y)))
    (sym (four t z c l x) ∙ e ∙ four t' (0x80 ∷ []) c' ((0 ∷ (0 ∷ [])) ++ l') y)).rest
spells-once (opened {tag = t} {body = c} {later = l} g i r) (value {tag = t'} {size = z'} {content = c'} {later = l'} g' k' r') x y s u e =
    never (sym (tags-once g g' ((0x80 ∷ []) ++ (c ++ (((0 ∷ (0 ∷ [])) ++ l) ++ x))) (z' ++ (c' ++ (l' ++ y)))
    (sym (four t (0x80 ∷ []) c ((0 ∷ (0 ∷ [])) ++ l) x) ∙ e ∙ four t' z' c' l' y)).bits)
spells-once (opened {tag = t} {body = c} {later = l} g i r) (container {tag = t'} {size = z'} {body = c'} {later = l'} g' k' i' r') x y s u e =
    not-open _ k' (c' ++ (l' ++ y)) (c ++ (((0 ∷ (0 ∷ [])) ++ l) ++ x))
    (sym (tags-once g g' ((0x80 ∷ []) ++ (c ++ (((0 ∷ (0 ∷ [])) ++ l) ++ x))) (z' ++ (c' ++ (l' ++ y)))
    (sym (four t (0x80 ∷ []) c ((0 ∷ (0 ∷ [])) ++ l) x) ∙ e ∙ four t' z' c' l' y)).rest)
spells-once (opened {tag = t} {body = c} {later = l} g i r) (opened {tag = t'} {body = c'} {later = l'} g' i' r') x y s u e =
    let a = tags-once g g' ((0x80 ∷ []) ++ (c ++ (((0 ∷ (0 ∷ [])) ++ l) ++ x))) ((0x80 ∷ []) ++ (c' ++ (((0 ∷ (0 ∷ [])) ++ l') ++ y)))
    (sym (four t (0x80 ∷ []) c ((0 ∷ (0 ∷ [])) ++ l) x) ∙ e ∙ four t' (0x80 ∷ []) c' ((0 ∷ (0 ∷ [])) ++ l') y) in
    let j = spells-once i i' (0 ∷ (0 ∷ (l ++ x))) (0 ∷ (0 ∷ (l' ++ y))) refl refl (tails a.rest) in
    let m = spells-once r r' x y s u (tails (tails j.1)) in
    (nest-is indefinite a.classes a.number j.0 m.0, m.1)

pub one-spelling : {s : List ℕ} {v w : Values} → Spells s v → Spells s w → v ≡ w
one-spelling a b = (spells-once a b [] [] tt tt refl).0
