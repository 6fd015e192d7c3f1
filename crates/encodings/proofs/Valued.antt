-- The values that the writer's message spells; its reals have scale 0 and an odd mantissa.
use Prim.Native.Nat.{ℕ, suc, ◌+◌, ◌-◌, ◌≤◌, ◌<◌, ◌^◌}
use mathlib.Core.Path.{◌≡◌, refl, sym, ap, subst}
use mathlib.Core.List.{List, [], ◌∷◌, ◌++◌, append-nil}
use mathlib.Core.Bool.{Bool, true, false}
use mathlib.Core.Logic.{◌⊎◌, inl, inr, ⊎_elim}
use native.Mathlib.Omega.{arith}
use borrow.Author.Tests.{lt-ltb, le-ltb}
use lib.ListN.{length, get_or, length-append}
use lib.Dec.{ltb, eqb}
use lib.Ieee as Ieee
use lib.Ieee.{binary64}
use lib.Ieee.Bits.{of_bits-fits}
use Rattle.ber_integers.specs.Digits.{natural, digits, count}
use Rattle.ber_integers.proofs.Radix.{lt-or-le, length_digits, horner-digits, count-holds, count-least}
use Rattle.ber_tags.specs.Write.{tag_octets, length_octets}
use Rattle.ber_reals.specs.Write.{form}
use Rattle.ber_reals.specs.Means.{Plain}
use Rattle.ber_reals.proofs.RoundTrip.{written-plain}
use Rattle.base_choices.proofs.Laws.{pick-by, both_left, both_right}
use Rattle.glow_grammar.specs.Grammar.{rule_of, contents_of, applications}
use Rattle.glow_grammar.specs.Leaf.{expects}
use Rattle.glow_grammar.proofs.Tables.{root-short}
use Rattle.glow_trees.specs.Content.{Content, nothing, word, bytes, wrong, is_word, is_part}
use Rattle.glow_trees.specs.Trees.{Trees, none, tree}
use Rattle.glow_trees.specs.Legal.{is_real, word_suits, suits, suited, rule_at, inner, path_after, is_root, legal, legal_root}
use Rattle.glow_trees.specs.Written.{tagged, outer, spelled, member_octets, members_octets, wrapped, own, trees_octets, root_number, message_octets, form_octets}
use Rattle.glow_trees.specs.Written.{written_real}
use Rattle.trees_read_back.proofs.Bools.{unless, word-kinds, part-kinds}
use Rattle.trees_read_back.proofs.Growth.{right}
use Rattle.trees_accepted.proofs.Sizes.{around, tagged-size}
use Rattle.trees_accepted.proofs.Tables.{stands-kind, application-short}
use Rattle.trees_round_trip.proofs.Rows.{legal-held}
use Rattle.trees_round_trip.proofs.Reals.{real-form}
use Rattle.encodings.specs.Values.{Values, end, plain, nest, definite, lead, Tags, short, Lengths, Spells, value, container, opened}
use Rattle.encodings.specs.Values as values
use Rattle.encodings.specs.Encodes.{message}
use Rattle.encodings.specs.Writing.{PlainReals}
use Rattle.encodings.proofs.Unique.{four}

-- ---- values, one list after another

abbrev pub append : Values → Values → Values
append end w = w
append (plain class n content rest) w = plain class n content (append rest w)
append (nest form class n inside rest) w = nest form class n inside (append rest w)

spells-append : {a b : List ℕ} {v w : Values} → Spells a v → Spells b w → Spells (a ++ b) (append v w)
spells-append values.nothing r = r
spells-append {b = b} {w = w} (value {tag = t} {size = z} {content = c} {later = l} {class = class} {number = n} {rest = rest} g k i) r =
    subst (λ (x : List ℕ). Spells x (plain class n c (append rest w))) (sym (four t z c l b)) (value g k (spells-append i r))
spells-append {b = b} {w = w} (container {tag = t} {size = z} {body = c} {later = l} {class = class} {number = n} {inside = inside} {rest = rest} g k i j) r =
    subst (λ (x : List ℕ). Spells x (nest definite class n inside (append rest w))) (sym (four t z c l b)) (container g k i (spells-append j r))
spells-append {b = b} {w = w} (opened {tag = t} {body = c} {later = l} {class = class} {number = n} {inside = inside} {rest = rest} g i j) r =
    subst (λ (x : List ℕ). Spells x (nest values.indefinite class n inside (append rest w))) (sym (four t (0x80 ∷ []) c ((0 ∷ (0 ∷ [])) ++ l) b))
    (opened g i (spells-append j r))

plain-append : (v w : Values) → PlainReals v → PlainReals w → PlainReals (append v w)
plain-append end w a b = b
plain-append (plain class n content rest) w a b = (a.0, plain-append rest w a.1 b)
plain-append (nest form class n inside rest) w a b = (a.0, plain-append rest w a.1 b)

-- ---- the values of a tree

pub member_values : ℕ → Content → Values
member_values n nothing = end
member_values n (word kind w) = nest definite 2 n (plain 0 kind (spelled written_real kind w) end) end
member_values n (bytes kind bs) = nest definite 2 n (plain 0 kind bs end) end
member_values n wrong = end

pub members_values : ℕ → List Content → Values
members_values n [] = end
members_values n (x ∷ xs) = append (member_values n x) (members_values (suc n) xs)

pub wrapped_values : ℕ → ℕ → ℕ → List ℕ → Values → Values
wrapped_values n class number [] v = end
wrapped_values n class number (x ∷ xs) v = nest definite 2 n (nest definite class number v end) end

pub trees_values : Trees → Values
trees_values none = end
trees_values (tree kind members kids links rest) =
    append
    (nest definite 2 0
    (nest definite 1 (get_or applications kind 0)
    (append (members_values 0 (own kind members))
    (append (wrapped_values 1 0 17 (members_octets written_real 0 (inner kind members)) (members_values 0 (inner kind members)))
    (append (wrapped_values 2 1 4 (trees_octets written_real kids) (trees_values kids))
    (wrapped_values 5 0 16 (trees_octets written_real links) (trees_values links))))) end) end)
    (trees_values rest)

-- ---- they are spelled by its octets, where these are few

-- what octets of at most 16,384 spell; and its reals
abbrev Spelt : List ℕ → Values → Type 0
Spelt xs v = (length xs ≤ 16384 → Spells xs v) × PlainReals v

tag_of : (class : ℕ) (c : Bool) (n : ℕ) → n < 31 → 0 < lead class c n → Tags (tag_octets class c n) class c n
unfolding tag_octets
tag_of class c n h z = rw (lt-ltb _ _ h) (short {class = class} {number = n} {container = c} h z)

length-of : (n : ℕ) → n ≤ 16384 → Lengths (length_octets n) n
unfolding length_octets
length-of n h = ⊎_elim (λ (k : n < 128). rw (lt-ltb _ _ k) (values.short k)) (λ (k : 128 ≤ n). rw (le-ltb _ _ k) (long_of k)) (lt-or-le n 128)
  where
    some : (d : ℕ) → 128 ≤ n → n < 256 ^ d → 1 ≤ d
    some d k l = ⊎_elim (λ (z : d < 1). let i : d ≡ 0 = omega arith in let l0 : n < 256 ^ 0 = subst (λ (j : ℕ). n < 256 ^ j) i l in absurd (omega arith))
        (λ (z : 1 ≤ d). z) (lt-or-le d 1)

    long_of : 128 ≤ n → Lengths ((128 + count 256 n) ∷ digits 256 (count 256 n) n) n
    long_of k =
        let d = digits 256 (count 256 n) n in
        let holds : n < 256 ^ count 256 n = count-holds 256 (omega arith) n n (omega arith) in
        let least : count 256 n ≤ 2 = count-least 256 (omega arith) n n 2 (omega arith) (omega arith) in
        let l : length d ≡ count 256 n = length_digits 256 (omega arith) (count 256 n) n in
        let v : natural d ≡ n = horner-digits 256 (omega arith) (count 256 n) n holds in
        let m = some (count 256 n) k holds in
        subst (λ (i : ℕ). Lengths ((128 + i) ∷ d) n) l (subst (Lengths ((128 + length d) ∷ d)) v (values.long d (omega arith) (omega arith)))

-- a tag around them
module _ (class n : ℕ) (h : n < 31) where
  tagged-few : (c : Bool) (xs : List ℕ) → length (tagged class c n xs) ≤ 16384 → length xs ≤ 16384
  unfolding around
  tagged-few c xs m = let z = tagged-size class c n xs h in omega arith

  whole : (c : Bool) (xs : List ℕ) → tag_octets class c n ++ (length_octets (length xs) ++ (xs ++ [])) ≡ tagged class c n xs
  unfolding tagged
  whole c xs = ap (λ (l : List ℕ). tag_octets class c n ++ (length_octets (length xs) ++ l)) (append-nil xs)

  spelt-nest : (xs : List ℕ) (v : Values) → 0 < class → Spelt xs v → Spelt (tagged class true n xs) (nest definite class n v end)
  spelt-nest xs v k a = (
    λ m.
        let few = tagged-few true xs m in
        subst (λ (l : List ℕ). Spells l (nest definite class n v end)) (whole true xs)
        (container (tag_of class true n h (omega arith)) (length-of (length xs) few) (a.0 few) values.nothing),
    (a.1, tt),
  )

spelt-universal : (n : ℕ) → n < 31 → (xs : List ℕ) (v : Values) → Spelt xs v → Spelt (tagged 0 true n xs) (nest definite 0 n v end)
spelt-universal n h xs v a = (
  λ m.
      let few = tagged-few 0 n h true xs m in
      subst (λ (l : List ℕ). Spells l (nest definite 0 n v end)) (whole 0 n h true xs)
      (container (tag_of 0 true n h (omega arith)) (length-of (length xs) few) (a.0 few) values.nothing),
  (a.1, tt),
)

spelt-plain : (n : ℕ) → n < 31 → 0 < n → (xs : List ℕ) → (n ≡ 9 → Plain xs) → Spelt (tagged 0 false n xs) (plain 0 n xs end)
spelt-plain n h k xs p = (
  λ m.
      let few = tagged-few 0 n h false xs m in
      subst (λ (l : List ℕ). Spells l (plain 0 n xs end)) (whole 0 n h false xs)
      (value (tag_of 0 false n h (omega arith)) (length-of (length xs) few) values.nothing),
  (λ c q. p q, tt),
)

spelt-append : (xs ys : List ℕ) (v w : Values) → Spelt xs v → Spelt ys w → Spelt (xs ++ ys) (append v w)
spelt-append xs ys v w a b = (
  λ m. let l = length-append xs ys in spells-append (a.0 (omega arith)) (b.0 (omega arith)),
  plain-append v w a.1 b.1,
)

nothing-spelt : Spelt [] end
nothing-spelt = (λ m. values.nothing, tt)

spelt-wrapped : (n class number : ℕ) (xs : List ℕ) (v : Values) → n < 31 → number < 31 → (0 < class) ⊎ (class ≡ 0) → Spelt xs v
    → Spelt (wrapped n class number xs) (wrapped_values n class number xs v)
unfolding wrapped wrapped_values
spelt-wrapped n class number [] v h k c a = nothing-spelt
spelt-wrapped n class number (x ∷ xs) v h k (inl c) a =
    spelt-nest 2 n h (tagged class true number (x ∷ xs)) (nest definite class number v end) (omega arith) (spelt-nest class number k (x ∷ xs) v c a)
spelt-wrapped n class number (x ∷ xs) v h k (inr c) a =
    spelt-nest 2 n h (tagged class true number (x ∷ xs)) (nest definite class number v end) (omega arith)
    (subst (λ (i : ℕ). Spelt (tagged i true number (x ∷ xs)) (nest definite i number v end)) (sym c) (spelt-universal number k (x ∷ xs) v a))

-- ---- members

real-plain : (w : ℕ) → is_real w ≡ true → Plain (written_real w)
unfolding written_real
real-plain w e =
    let f = real-form w e in
    subst Plain (sym (ap form_octets f.1)) (written-plain (Ieee.of_bits binary64 w) f.0 (of_bits-fits binary64 w) f.1)

abbrev Fine : Content → Type 0
Fine nothing = Unit {0}
Fine (word kind w) = (0 < kind) × ((kind < 31) × (kind ≡ 9 → Plain (spelled written_real kind w)))
Fine (bytes kind bs) = (0 < kind) × ((kind < 31) × (kind ≡ 9 → ⊥))
Fine wrong = Unit {0}

abbrev AllFine : List Content → Type 0
AllFine [] = Unit {0}
AllFine (x ∷ xs) = Fine x × AllFine xs

word-fine : (what kind w : ℕ) → is_word kind ≡ true → word_suits what kind w ≡ true → Fine (word kind w)
unfolding spelled word_suits
word-fine what kind w i y =
    ⊎_elim (λ (q : kind ≡ 1). (omega arith, (omega arith, λ z. absurd (omega arith))))
    (⊎_elim (λ (q : kind ≡ 2). (omega arith, (omega arith, λ z. absurd (omega arith))))
    (λ (q : kind ≡ 9). subst (λ (n : ℕ). word_suits what n w ≡ true → Fine (word n w)) (sym q) (λ z. (omega arith, (omega arith, λ c. real-plain w z))) y))
    (word-kinds kind i)

part-fine : (kind : ℕ) (bs : List ℕ) → is_part kind ≡ true → Fine (bytes kind bs)
part-fine kind bs i =
    ⊎_elim (λ (q : kind ≡ 4). (omega arith, (omega arith, λ z. omega arith)))
    (⊎_elim (λ (q : kind ≡ 12). (omega arith, (omega arith, λ z. omega arith))) (λ (q : kind ≡ 13). (omega arith, (omega arith, λ z. omega arith))))
    (part-kinds kind i)

suits-fine : (what : ℕ) (x : Content) → suits what x ≡ true → Fine x
unfolding suits
suits-fine what nothing i = tt
suits-fine what wrong i = tt
suits-fine what (word kind w) i =
    let a = (unless (eqb what 0) _ i).1 in
    let c = both_right (ltb w 18446744073709551616) _ (both_right (is_word kind) _ a) in
    word-fine what kind w (both_left (is_word kind) _ a) (both_right (expects what kind) _ c)
suits-fine what (bytes kind bs) i = part-fine kind bs (both_left (is_part kind) _ (unless (eqb what 0) _ i).1)

suited-fine : (kind c : ℕ) (xs : List Content) → suited kind c xs ≡ true → AllFine xs
unfolding suited
suited-fine kind c [] e = tt
suited-fine kind c (x ∷ xs) e = (suits-fine (rule_at kind c) x (both_left _ _ e), suited-fine kind (suc c) xs (both_right (suits (rule_at kind c) x) _ e))

spelt-member : (n : ℕ) (x : Content) → n < 31 → Fine x → Spelt (member_octets written_real n x) (member_values n x)
unfolding member_octets member_values
spelt-member n nothing h f = nothing-spelt
spelt-member n wrong h f = nothing-spelt
spelt-member n (word kind w) h f =
    spelt-nest 2 n h (tagged 0 false kind (spelled written_real kind w)) (plain 0 kind (spelled written_real kind w) end) (omega arith)
    (spelt-plain kind f.1.0 f.0 (spelled written_real kind w) f.1.1)
spelt-member n (bytes kind bs) h f =
    spelt-nest 2 n h (tagged 0 false kind bs) (plain 0 kind bs end) (omega arith) (spelt-plain kind f.1.0 f.0 bs (λ q. absurd (f.1.1 q)))

spelt-members : (n : ℕ) (xs : List Content) → n + length xs ≤ 31 → AllFine xs → Spelt (members_octets written_real n xs) (members_values n xs)
unfolding members_octets members_values
spelt-members n [] h f = nothing-spelt
spelt-members n (x ∷ xs) h f =
    spelt-append (member_octets written_real n x) (members_octets written_real (suc n) xs) (member_values n x) (members_values (suc n) xs)
    (spelt-member n x (omega arith) f.0) (spelt-members (suc n) xs (omega arith) f.1)

own-fine : (kind : ℕ) (xs : List Content) → length xs ≤ 16 → AllFine xs → (length (own kind xs) ≤ 16) × AllFine (own kind xs)
unfolding own
own-fine kind [] h f = (h, tt)
own-fine kind (x ∷ xs) h f =
    pick-by (λ (l : List Content). (length l ≤ 16) × AllFine l) (eqb (contents_of kind) 0) (λ e. (h, f)) (λ e. (omega arith, (f.0, tt)))

inner-fine : (kind : ℕ) (xs : List Content) → length xs ≤ 16 → AllFine xs → (length (inner kind xs) ≤ 16) × AllFine (inner kind xs)
unfolding inner
inner-fine kind [] h f = (h, tt)
inner-fine kind (x ∷ xs) h f =
    pick-by (λ (l : List Content). (length l ≤ 16) × AllFine l) (eqb (contents_of kind) 0) (λ e. (omega arith, tt)) (λ e. (omega arith, f.1))

-- ---- trees

spelt-trees : (t : Trees) (which k above : ℕ) → legal which k above t ≡ true → Spelt (trees_octets written_real t) (trees_values t)
unfolding trees_octets trees_values
spelt-trees none which k above e = nothing-spelt
spelt-trees (tree kind members kids links rest) which k above e =
    let r = right which k above kind members kids links rest e in
    let path = path_after kind above members in
    let a = spelt-trees kids 1 (k - 4) path (legal-held (eqb (rule_of kind 2) 14) 1 (k - 4) path kids r.below) in
    let b = spelt-trees links 2 (k - 4) path (legal-held (eqb (rule_of kind 5) 15) 2 (k - 4) path links r.linked) in
    let c = spelt-trees rest which k above r.others in
    let z = r.size in
    let f = suited-fine kind 0 members r.suit in
    let g = own-fine kind members (omega arith) f in
    let h = inner-fine kind members (omega arith) f in
    let gl = g.0 in
    let hl = h.0 in
    let number = get_or applications kind 0 in
    let m1 = members_octets written_real 0 (own kind members) in
    let m2 = wrapped 1 0 17 (members_octets written_real 0 (inner kind members)) in
    let m3 = wrapped 2 1 4 (trees_octets written_real kids) in
    let m4 = wrapped 5 0 16 (trees_octets written_real links) in
    let v1 = members_values 0 (own kind members) in
    let v2 = wrapped_values 1 0 17 (members_octets written_real 0 (inner kind members)) (members_values 0 (inner kind members)) in
    let v3 = wrapped_values 2 1 4 (trees_octets written_real kids) (trees_values kids) in
    let v4 = wrapped_values 5 0 16 (trees_octets written_real links) (trees_values links) in
    let s1 : Spelt m1 v1 = spelt-members 0 (own kind members) (omega arith) g.1 in
    let s2 : Spelt m2 v2 =
    spelt-wrapped 1 0 17 (members_octets written_real 0 (inner kind members)) (members_values 0 (inner kind members)) (omega arith) (omega arith) (inr refl)
    (spelt-members 0 (inner kind members) (omega arith) h.1) in
    let s3 : Spelt m3 v3 = spelt-wrapped 2 1 4 (trees_octets written_real kids) (trees_values kids) (omega arith) (omega arith) (inl (omega arith)) a in
    let s4 : Spelt m4 v4 = spelt-wrapped 5 0 16 (trees_octets written_real links) (trees_values links) (omega arith) (omega arith) (inr refl) b in
    let s0 : Spelt (m1 ++ (m2 ++ (m3 ++ m4))) (append v1 (append v2 (append v3 v4))) =
    spelt-append m1 (m2 ++ (m3 ++ m4)) v1 (append v2 (append v3 v4)) s1 (spelt-append m2 (m3 ++ m4) v2 (append v3 v4) s2 (spelt-append m3 m4 v3 v4 s3 s4)) in
    let short' = application-short kind (stands-kind which kind r.stands) in
    spelt-append (outer 0 1 true number (m1 ++ (m2 ++ (m3 ++ m4)))) (trees_octets written_real rest)
    (nest definite 2 0 (nest definite 1 number (append v1 (append v2 (append v3 v4))) end) end) (trees_values rest)
    (spelt-nest 2 0 (omega arith) (tagged 1 true number (m1 ++ (m2 ++ (m3 ++ m4)))) (nest definite 1 number (append v1 (append v2 (append v3 v4))) end)
    (omega arith)
    (spelt-nest 1 number short' (m1 ++ (m2 ++ (m3 ++ m4))) (append v1 (append v2 (append v3 v4))) (omega arith) s0)) c

-- The message of a legal tree spells these values.
pub message-spelt : (root : ℕ) (t : Trees) → legal_root root t ≡ true → length (message_octets written_real root t) ≤ 16384
    → Spells (message_octets written_real root t) (message definite root (trees_values t)) × PlainReals (trees_values t)
unfolding message_octets legal_root
message-spelt root t e few =
    let a = spelt-trees t root 62 0 (both_right (is_root root) _ e) in
    let xs = trees_octets written_real t in (
      (spelt-nest 1 0 (omega arith) (tagged 1 true (root_number root) xs) (nest definite 1 (root_number root) (trees_values t) end) (omega arith)
          (spelt-nest 1 (root_number root) (root-short root) xs (trees_values t) (omega arith) a)).0 few,
      a.1,
    )
