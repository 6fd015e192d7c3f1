-- How many octets a tag around n octets takes, at the least.
use Prim.Native.Nat.{ℕ, suc, ◌+◌, ◌^◌, ◌<◌, ◌≤◌}
use mathlib.Core.Path.{◌≡◌, ap, ◌∙◌}
use mathlib.Core.List.{List, [], ◌∷◌, ◌++◌}
use mathlib.Core.Bool.{Bool, true, false}
use mathlib.Core.Logic.{⊎_elim}
use native.Mathlib.Omega.{arith}
use lib.ListN.{length, length-append}
use borrow.Author.Tests.{lt-ltb}
use Rattle.ber_integers.specs.Digits.{count}
use Rattle.ber_integers.proofs.Radix.{lt-or-le, count-holds, count-least}
use Rattle.ber_tags.specs.Write.{tag_octets, length_octets}
use Rattle.ber_tags.proofs.Shortest.{length-length-short, length-length-long}
use Rattle.glow_trees.specs.Content.{Content, nothing, word, bytes, wrong}
use Rattle.glow_trees.specs.Written.{tagged, spelled, member_octets, wrapped}

abbrev pub length_size : ℕ → ℕ
length_size n = length (length_octets n)

pub length_some : (n : ℕ) → 1 ≤ length_size n
length_some n =
    ⊎_elim (λ (h : n < 128). let e = length-length-short n h in omega arith) (λ (h : 128 ≤ n). let e = length-length-long n h in omega arith) (lt-or-le n 128)

pub length_more : (m n : ℕ) → m ≤ n → length_size m ≤ length_size n
length_more m n h =
    ⊎_elim (λ (k : m < 128). let e = length-length-short m k in let o = length_some n in omega arith)
    (λ (k : 128 ≤ m).
    let a = length-length-long m k in
    let b = length-length-long n (omega arith) in
    let c : n < 256 ^ count 256 n = count-holds 256 (omega arith) n n (omega arith) in
    let d : count 256 m ≤ count 256 n = count-least 256 (omega arith) m m (count 256 n) (omega arith) (omega arith) in
    omega arith)
    (lt-or-le m 128)

pub length-few : (n : ℕ) → n ≤ 16384 → length_size n ≤ 3
length-few n h =
    ⊎_elim (λ (k : n < 128). let e = length-length-short n k in omega arith)
    (λ (k : 128 ≤ n).
    let a = length-length-long n k in
    let d : count 256 n ≤ 2 = count-least 256 (omega arith) n n 2 (omega arith) (omega arith) in
    omega arith)
    (lt-or-le n 128)

-- a tag of one octet around n octets
unfoldable pub around : ℕ → ℕ
around n = suc (length_size n + n)

tag-short : (class : ℕ) (c : Bool) (n : ℕ) → n < 31 → length (tag_octets class c n) ≡ 1
unfolding tag_octets
tag-short class c n h = simp (lt-ltb _ _ h)

pub tagged-size : (class : ℕ) (c : Bool) (n : ℕ) (xs : List ℕ) → n < 31 → length (tagged class c n xs) ≡ around (length xs)
unfolding tagged around
tagged-size class c n xs h =
    let a = length-append (tag_octets class c n) (length_octets (length xs) ++ xs) in
    let b = length-append (length_octets (length xs)) xs in
    let d = tag-short class c n h in
    omega arith

pub outer-size : (m class : ℕ) (c : Bool) (n : ℕ) (xs : List ℕ) → m < 31 → n < 31
    → length (tagged 2 true m (tagged class c n xs)) ≡ around (around (length xs))
outer-size m class c n xs h k = tagged-size 2 true m (tagged class c n xs) h ∙ ap around (tagged-size class c n xs k)

pub wrapped-size : (m class n : ℕ) (xs : List ℕ) → m < 31 → n < 31 → length (wrapped m class n xs) ≤ around (around (length xs))
unfolding wrapped
wrapped-size m class n [] h k = omega arith
wrapped-size m class n (x ∷ xs) h k = let e = outer-size m class true n (x ∷ xs) h k in omega arith

-- the octets of a value
unfoldable pub inside : (ℕ → List ℕ) → Content → ℕ
inside least nothing = 0
inside least (word kind w) = length (spelled least kind w)
inside least (bytes kind bs) = length bs
inside least wrong = 0

abbrev pub kindly : Content → ℕ
kindly nothing = 0
kindly (word kind w) = kind
kindly (bytes kind bs) = kind
kindly wrong = 0

pub member-size : (least : ℕ → List ℕ) (n : ℕ) (x : Content) → n < 31 → kindly x < 31 → length (member_octets least n x) ≤ around (around (inside least x))
unfolding member_octets inside
member-size least n nothing h k = omega arith
member-size least n (word kind w) h k = let e = outer-size n 0 false kind (spelled least kind w) h k in omega arith
member-size least n (bytes kind bs) h k = let e = outer-size n 0 false kind bs h k in omega arith
member-size least n wrong h k = omega arith
