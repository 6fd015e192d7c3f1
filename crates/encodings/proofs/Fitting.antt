-- A member's value: what `Fits` allows after what `Says` says is what glow_trees' `suits` and `path_of` have, by which the reader was proved.
use Prim.Native.Nat.{ℕ, suc, ◌+◌, ◌-◌, ◌≤◌, ◌<◌}
use mathlib.Core.Path.{◌≡◌, refl, sym, ap, subst, ◌∙◌}
use mathlib.Core.List.{List, [], ◌∷◌, ◌++◌}
use mathlib.Core.Bool.{Bool, true, false}
use mathlib.Core.Logic.{◌⊎◌, inl, inr, ⊎_elim}
use native.Mathlib.Omega.{arith}
use borrow.Author.Tests.{le-leb, lt-leb, lt-ltb, eq-eqb, ne_eqb, eqb-true, eqb-false, leb-true, leb-false}
use lib.ListN.{length, length-append}
use lib.Dec.{leb, ltb, eqb}
use lib.IntN.{pos, negsuc}
use lib.Ieee as Ieee
use lib.Ieee.{Float, binary64}
use lib.Ieee.Bits.{of_bits-to_bits, to_bits-lt, nan_bits_is}
use Rattle.base_choices.specs.Choices.{pick}
use Rattle.base_choices.proofs.Laws.{both_left, both_right}
use Rattle.ber_integers.specs.Integer.{signed}
use Rattle.ber_integers.proofs.Radix.{Below, lt-or-le}
use Rattle.ber_integers.proofs.RoundTrip.{read_fits}
use Rattle.ber_reals.specs.Write.{form}
use Rattle.ber_reals.specs.Means.{Means}
use Rattle.ber_reals.proofs.Exactly.{exactly}
use Rattle.ber_reals.proofs.RoundTrip.{read-written as real-written}
use Rattle.ber_values.specs.Value.{is_listed}
use Rattle.ber_identifiers.specs.Identifier.{Arcs, bad, over, numbers, arcs}
use Rattle.glow_grammar.specs.Leaf.{expects, least, most, in_range, is_name, is_path}
use Rattle.glow_trees.specs.Content.{Content, nothing, word, bytes, wrong, is_word, is_part, int_of}
use Rattle.glow_trees.specs.Legal.{is_formed, is_real, word_suits, path_suits, list_suits, part_suits, suits, length_of, path_of}
use Rattle.trees_read_back.proofs.Bools.{never, unless, part-kinds, word-kinds}
use Rattle.trees_accepted.proofs.Leaves.{word_low, form-no-nan}
use Rattle.encodings.specs.Says.{Says, untrue, truth, integer, octets, real, text, identifier, Numbers}
use Rattle.encodings.specs.Encodes.{Fits, a-name, a-text, a-flag, any_word, any-text, any-octets, a-number, a-path, sources, in-range}
use Rattle.encodings.proofs.Septets.{arcs-exactly}
use Rattle.encodings.proofs.Leaves.{nine-read}

-- ---- what is said

-- the words and parts that content octets say
abbrev Told : List ℕ → Content → Type 0
Told content nothing = ⊥
Told content (word kind w) = (w < 18446744073709551616) × (((kind ≡ 1) × (w ≤ 1)) ⊎ ((kind ≡ 2) ⊎ ((kind ≡ 9) × (is_real w ≡ true))))
Told content (bytes kind bs) = (is_part kind ≡ true) × (content ≡ bs)
Told content wrong = ⊥

real-told : (bs : List ℕ) (x : Float) → Below 256 bs → Means bs x → (Ieee.to_bits binary64 x < 18446744073709551616) × (is_real (Ieee.to_bits binary64 x) ≡ true)
unfolding is_real
real-told bs x b m =
    let r = real-written bs x b ((exactly bs b x).1 m) in
    let back = of_bits-to_bits binary64 x r.0 in
    let form' = r.1.1.0 in
    let n : Ieee.nan_bits binary64 (Ieee.to_bits binary64 x) ≡ false = nan_bits_is binary64 (Ieee.to_bits binary64 x) ∙ ap Ieee.is_nan back ∙ form-no-nan x form' in
    (to_bits-lt binary64 x r.0, rw n (ap (λ (y : Float). is_formed (form y)) back ∙ ap is_formed form'))

told : {type : ℕ} {content : List ℕ} {x : Content} → Says type content x → Below 256 content → Told content x
told untrue b = (omega arith, inl (refl, omega arith))
told (truth h) b = (omega arith, inl (refl, omega arith))
told (integer {bs = bs} lo hi d) b = (word_low (signed bs) (read_fits bs (signed bs) b (nine-read bs lo hi d)), inr (inl refl))
told octets b = (refl, refl)
told (real {bs = bs} x m) b = let r = real-told bs x b m in (r.0, inr (inr (refl, r.1)))
told text b = (refl, refl)
told identifier b = (refl, refl)

-- ---- what fits suits

suits-word : (what kind w : ℕ) → (what ≡ 0 → ⊥) → is_word kind ≡ true → w < 18446744073709551616 → expects what kind ≡ true → word_suits what kind w ≡ true
    → suits what (word kind w) ≡ true
unfolding suits
suits-word what kind w n a b x y = rw (ne_eqb _ _ n, a, lt-ltb _ _ b, x) y

suits-any : (content : List ℕ) (kind w : ℕ) → Told content (word kind w) → suits 4 (word kind w) ≡ true
unfolding suits word_suits expects is_listed
suits-any content kind w (b, inl (e, l)) = rw (e, lt-ltb _ _ b, le-leb _ _ l) refl
suits-any content kind w (b, inr (inl e)) = rw (e, lt-ltb _ _ b) refl
suits-any content kind w (b, inr (inr (e, r))) = rw (e, lt-ltb _ _ b, r) refl

suits-flag : (content : List ℕ) (w : ℕ) → Told content (word 1 w) → suits 3 (word 1 w) ≡ true
unfolding suits word_suits expects
suits-flag content w (b, inl (e, l)) = rw (lt-ltb _ _ b, le-leb _ _ l) refl
suits-flag content w (b, inr (inl e)) = absurd (omega arith)
suits-flag content w (b, inr (inr (e, r))) = absurd (omega arith)

int-low : (n : ℕ) → n ≤ 2147483647 → int_of n ≡ pos n
unfolding int_of
int-low n h = let k : n < 9223372036854775808 = omega arith in simp (lt-ltb _ _ k)

suits-number : (n : ℕ) → 1 ≤ n → n ≤ 2147483647 → suits 5 (word 2 n) ≡ true
unfolding suits word_suits expects in_range least most
suits-number n lo hi =
    let b : n < 18446744073709551616 = omega arith in
    rw (lt-ltb _ _ b, int-low n hi, le-leb _ _ lo, le-leb _ _ hi) refl

expects-int : (what : ℕ) → 8 ≤ what → expects what 2 ≡ true
unfolding expects
expects-int what h =
    let a : what ≡ 4 → ⊥ = λ e. omega arith in
    let b : 2 < what = omega arith in
    let c : what ≡ 3 → ⊥ = λ e. omega arith in
    let d : what ≡ 6 → ⊥ = λ e. omega arith in
    let e : what ≡ 7 → ⊥ = λ e. omega arith in
    rw (ne_eqb _ _ a, lt-leb _ _ b, ne_eqb _ _ c, ne_eqb _ _ d, ne_eqb _ _ e) refl

suits-range : (content : List ℕ) (what w : ℕ) → Told content (word 2 w) → 8 ≤ what → in_range what (int_of w) ≡ true → suits what (word 2 w) ≡ true
unfolding suits word_suits
suits-range content what w t h r =
    let a : what ≡ 0 → ⊥ = λ e. omega arith in
    let b : what ≡ 4 → ⊥ = λ e. omega arith in
    rw (ne_eqb _ _ a, lt-ltb _ _ t.0, expects-int what h, ne_eqb _ _ b) r

suits-name : (bs : List ℕ) → is_name bs ≡ true → suits 1 (bytes 12 bs) ≡ true
unfolding suits part_suits expects
suits-name bs e = e

suits-text : (bs : List ℕ) → suits 2 (bytes 12 bs) ≡ true
unfolding suits part_suits expects
suits-text bs = refl

suits-any-text : (bs : List ℕ) → suits 4 (bytes 12 bs) ≡ true
unfolding suits part_suits expects is_listed
suits-any-text bs = refl

suits-any-octets : (bs : List ℕ) → suits 4 (bytes 4 bs) ≡ true
unfolding suits part_suits expects is_listed
suits-any-octets bs = refl

suits-path : (bs ns : List ℕ) → arcs bs 0 (length bs) ≡ numbers ns → is_path ns ≡ true → suits 6 (bytes 13 bs) ≡ true
unfolding suits part_suits expects
suits-path bs ns e p = ap path_suits e ∙ p

suits-list : (bs ns : List ℕ) → arcs bs 0 (length bs) ≡ numbers ns → suits 7 (bytes 13 bs) ≡ true
unfolding suits part_suits expects
suits-list bs ns e = ap list_suits e

-- a value that fits, as the reader judges it
pub record Suited (what above : ℕ) (x : Content) (above' : ℕ) : Type 0 where
  pub some : 0 < what
  pub plain' : what < 13
  pub suit : suits what x ≡ true
  pub path : path_of what above (x ∷ []) ≡ above'
  pub deep : what ≡ 5 → above < 16

-- rules that a value may fit are those of values
pub fits-plain : {what : ℕ} {x : Content} {path path' : List ℕ} → Fits what path x path' → (0 < what) × (what < 13)
fits-plain (a-name e) = (omega arith, omega arith)
fits-plain a-text = (omega arith, omega arith)
fits-plain a-flag = (omega arith, omega arith)
fits-plain any_word = (omega arith, omega arith)
fits-plain any-text = (omega arith, omega arith)
fits-plain any-octets = (omega arith, omega arith)
fits-plain (a-number lo hi l) = (omega arith, omega arith)
fits-plain (a-path m p) = (omega arith, omega arith)
fits-plain (sources m) = (omega arith, omega arith)
fits-plain (in-range lo hi e) = (omega arith, omega arith)

module _ (content : List ℕ) (b : Below 256 content) where
  arcs-of : {bs ns : List ℕ} → content ≡ bs → Numbers bs ns → arcs bs 0 (length bs) ≡ numbers ns
  arcs-of {bs} {ns} e m = (arcs-exactly bs (subst (Below 256) e b) ns).1 m

  suited : {what : ℕ} {x : Content} {path path' : List ℕ} → Told content x → Fits what path x path' → Suited what (length path) x (length path')
  suited t (a-name {bs = bs} e) = record { some = omega arith; plain' = omega arith; suit = suits-name bs e; path = refl; deep = λ q. absurd (omega arith) }
  suited t (a-text {bs = bs}) = record { some = omega arith; plain' = omega arith; suit = suits-text bs; path = refl; deep = λ q. absurd (omega arith) }
  suited t (a-flag {b = w}) = record { some = omega arith; plain' = omega arith; suit = suits-flag content w t; path = refl; deep = λ q. absurd (omega arith) }
  suited t (any_word {type = k} {w = w}) =
      record { some = omega arith; plain' = omega arith; suit = suits-any content k w t; path = refl; deep = λ q. absurd (omega arith) }
  suited t (any-text {bs = bs}) =
      record { some = omega arith; plain' = omega arith; suit = suits-any-text bs; path = refl; deep = λ q. absurd (omega arith) }
  suited t (any-octets {bs = bs}) =
      record { some = omega arith; plain' = omega arith; suit = suits-any-octets bs; path = refl; deep = λ q. absurd (omega arith) }
  suited t (a-number {path = path} {n = n} lo hi l) =
      let z : length (path ++ (n ∷ [])) ≡ length path + 1 = length-append path (n ∷ []) in
      record { some = omega arith; plain' = omega arith; suit = suits-number n lo hi; path = omega arith; deep = λ q. omega arith }
  suited t (a-path {bs = bs} {ns = ns} m p) =
      let e = arcs-of t.1 m in
      record { some = omega arith; plain' = omega arith; suit = suits-path bs ns e p; path = ap length_of e; deep = λ q. absurd (omega arith) }
  suited t (sources {bs = bs} {ns = ns} m) =
      record { some = omega arith; plain' = omega arith; suit = suits-list bs ns (arcs-of t.1 m); path = refl; deep = λ q. absurd (omega arith) }
  suited {what = what} t (in-range {w = w} lo hi e) =
      let n : what ≡ 5 → ⊥ = λ q. omega arith in
      record { some = omega arith; plain' = omega arith; suit = suits-range content what w t lo e; path = simp (ne_eqb _ _ n); deep = λ q. absurd (n q) }

  pub fits-suited : {type what : ℕ} {x : Content} {path path' : List ℕ} → Says type content x → Fits what path x path'
      → Suited what (length path) x (length path')
  fits-suited s f = suited (told s b) f

-- ---- what suits fits

-- the rules that expect a universal number
expect-by : (P : Type 0) (what kind : ℕ) → expects what kind ≡ true → (what ≡ 4 → is_listed kind ≡ true → P) → (what ≤ 2 → kind ≡ 12 → P)
    → (what ≡ 3 → kind ≡ 1 → P)
    → (what ≡ 6 → kind ≡ 13 → P) → (what ≡ 7 → kind ≡ 13 → P) → ((what ≡ 5) ⊎ (8 ≤ what) → kind ≡ 2 → P) → P
unfolding expects
expect-by P what kind e a b c d f g = go4 (eqb what 4) refl e
  where
    rest : (what ≡ 4 → ⊥) → 2 < what → (what ≡ 3 → ⊥) → (what ≡ 6 → ⊥) → (what ≡ 7 → ⊥) → (what ≡ 5) ⊎ (8 ≤ what)
    rest n4 h n3 n6 n7 =
        ⊎_elim (λ (l : what < 8).
        ⊎_elim (λ (k : what < 5). ⊎_elim (λ (j : what < 4). absurd (n3 (omega arith))) (λ (j : 4 ≤ what). absurd (n4 (omega arith))) (lt-or-le what 4))
        (λ (k : 5 ≤ what).
        ⊎_elim (λ (j : what < 6). inl (omega arith))
        (λ (j : 6 ≤ what). ⊎_elim (λ (i : what < 7). absurd (n6 (omega arith))) (λ (i : 7 ≤ what). absurd (n7 (omega arith))) (lt-or-le what 7))
        (lt-or-le what 6))
        (lt-or-le what 5))
        (λ (l : 8 ≤ what). inr l) (lt-or-le what 8)

    go7 : (what ≡ 4 → ⊥) → 2 < what → (what ≡ 3 → ⊥) → (what ≡ 6 → ⊥) → (x : Bool) → eqb what 7 ≡ x → pick x (eqb kind 13) (eqb kind 2) ≡ true → P
    go7 n4 h n3 n6 true q e = f (eqb-true _ _ q) (eqb-true _ _ e)
    go7 n4 h n3 n6 false q e = g (rest n4 h n3 n6 (eqb-false _ _ q)) (eqb-true _ _ e)

    go6 : (what ≡ 4 → ⊥) → 2 < what → (what ≡ 3 → ⊥) → (x : Bool) → eqb what 6 ≡ x
        → pick x (eqb kind 13) (pick (eqb what 7) (eqb kind 13) (eqb kind 2)) ≡ true → P
    go6 n4 h n3 true q e = d (eqb-true _ _ q) (eqb-true _ _ e)
    go6 n4 h n3 false q e = go7 n4 h n3 (eqb-false _ _ q) (eqb what 7) refl e

    go3 : (what ≡ 4 → ⊥) → 2 < what → (x : Bool) → eqb what 3 ≡ x
        → pick x (eqb kind 1) (pick (eqb what 6) (eqb kind 13) (pick (eqb what 7) (eqb kind 13) (eqb kind 2))) ≡ true → P
    go3 n4 h true q e = c (eqb-true _ _ q) (eqb-true _ _ e)
    go3 n4 h false q e = go6 n4 h (eqb-false _ _ q) (eqb what 6) refl e

    go2 : (what ≡ 4 → ⊥) → (x : Bool) → leb what 2 ≡ x
        → pick x (eqb kind 12) (pick (eqb what 3) (eqb kind 1) (pick (eqb what 6) (eqb kind 13) (pick (eqb what 7) (eqb kind 13) (eqb kind 2)))) ≡ true → P
    go2 n4 true q e = b (leb-true _ _ q) (eqb-true _ _ e)
    go2 n4 false q e = go3 n4 (leb-false _ _ q) (eqb what 3) refl e

    go4 : (x : Bool) → eqb what 4 ≡ x
        → pick x (is_listed kind)
        (pick (leb what 2) (eqb kind 12)
        (pick (eqb what 3) (eqb kind 1) (pick (eqb what 6) (eqb kind 13) (pick (eqb what 7) (eqb kind 13) (eqb kind 2))))) ≡ true → P
    go4 true q e = a (eqb-true _ _ q) e
    go4 false q e = go2 (eqb-false _ _ q) (leb what 2) refl e

-- a value that suits, with the path after it
abbrev Fitted : ℕ → List ℕ → Content → Type 0
Fitted what path x = (path' : List ℕ) × (Fits what path x path' × (path_of what (length path) (x ∷ []) ≡ length path'))

-- a number of the path
step_range : (w : ℕ) → in_range 5 (int_of w) ≡ true → (1 ≤ w) × (w ≤ 2147483647)
unfolding int_of in_range least most
step_range w e = go (ltb w 9223372036854775808) refl e
  where
    go : (b : Bool) → ltb w 9223372036854775808 ≡ b → in_range 5 (pick b (pos w) (negsuc (18446744073709551615 - w))) ≡ true → (1 ≤ w) × (w ≤ 2147483647)
    go true q h = (leb-true _ _ (both_left (leb 1 w) _ h), leb-true _ _ (both_right (leb 1 w) _ h))
    go false q h = never h

module _ (path : List ℕ) where
  step_fits : (w : ℕ) → in_range 5 (int_of w) ≡ true → suc (length path) ≤ 16 → Fitted 5 path (word 2 w)
  step_fits w r l =
      let i = step_range w r in
      let z : length (path ++ (w ∷ [])) ≡ length path + 1 = length-append path (w ∷ []) in
      (path ++ (w ∷ []), (a-number {path = path} i.0 i.1 (omega arith), omega arith))

  path-fits : (bs : List ℕ) → Below 256 bs → (a : Arcs) → arcs bs 0 (length bs) ≡ a → path_suits a ≡ true → Fitted 6 path (bytes 13 bs)
  path-fits bs b bad q e = never e
  path-fits bs b over q e = never e
  path-fits bs b (numbers ns) q e = (ns, (a-path ((arcs-exactly bs b ns).0 q) e, ap length_of q))

  list-fits : (bs : List ℕ) → Below 256 bs → (a : Arcs) → arcs bs 0 (length bs) ≡ a → list_suits a ≡ true → Fitted 7 path (bytes 13 bs)
  list-fits bs b bad q e = never e
  list-fits bs b over q e = never e
  list-fits bs b (numbers ns) q e = (path, (sources ((arcs-exactly bs b ns).0 q), refl))

  module _ (what : ℕ) (some : 0 < what) (low : what < 13) where
    to : (n : ℕ) (x : Content) → what ≡ n → Fitted n path x → Fitted what path x
    to n x e f = subst (λ (i : ℕ). Fitted i path x) (sym e) f

    kind-to : (m n w : ℕ) → m ≡ n → Fitted what path (word n w) → Fitted what path (word m w)
    kind-to m n w e f = subst (λ (i : ℕ). Fitted what path (word i w)) (sym e) f

    word_fits : (kind w : ℕ) → is_word kind ≡ true → expects what kind ≡ true → word_suits what kind w ≡ true → (what ≡ 5 → suc (length path) ≤ 16)
        → Fitted what path (word kind w)
    unfolding word_suits
    word_fits kind w i x y deep =
        expect-by (Fitted what path (word kind w)) what kind x
        (λ e l. to 4 (word kind w) e (path, (any_word, refl)))
        (λ e l. ⊎_elim (λ (q : kind ≡ 1). absurd (omega arith)) (⊎_elim (λ (q : kind ≡ 2). absurd (omega arith)) (λ (q : kind ≡ 9). absurd (omega arith)))
        (word-kinds kind i))
        (λ e l. kind-to kind 1 w l (to 3 (word 1 w) e (path, (a-flag, refl))))
        (λ e l. ⊎_elim (λ (q : kind ≡ 1). absurd (omega arith)) (⊎_elim (λ (q : kind ≡ 2). absurd (omega arith)) (λ (q : kind ≡ 9). absurd (omega arith)))
        (word-kinds kind i))
        (λ e l. ⊎_elim (λ (q : kind ≡ 1). absurd (omega arith)) (⊎_elim (λ (q : kind ≡ 2). absurd (omega arith)) (λ (q : kind ≡ 9). absurd (omega arith)))
        (word-kinds kind i))
        (λ d l.
        kind-to kind 2 w l
        (let n4 : what ≡ 4 → ⊥ = λ q. ⊎_elim (λ (z : what ≡ 5). omega arith) (λ (z : 8 ≤ what). omega arith) d in
        let y2 : word_suits what 2 w ≡ true = ap (λ (j : ℕ). word_suits what j w) (sym l) ∙ y in
        let r : in_range what (int_of w) ≡ true = simp (ne_eqb _ _ n4) at y2 in
        ⊎_elim
        (λ (z : what ≡ 5). to 5 (word 2 w) z (step_fits w (ap (λ (j : ℕ). in_range j (int_of w)) (sym z) ∙ r) (deep z)))
        (λ (z : 8 ≤ what). let n5 : what ≡ 5 → ⊥ = λ q. omega arith in (path, (in-range z (omega arith) r, simp (ne_eqb _ _ n5)))) d))

    bytes-fits : (kind : ℕ) (bs : List ℕ) → Below 256 bs → is_part kind ≡ true → expects what kind ≡ true → part_suits what kind bs ≡ true
        → Fitted what path (bytes kind bs)
    unfolding part_suits is_listed
    bytes-fits kind bs b i x y =
        expect-by (Fitted what path (bytes kind bs)) what kind x
        (λ e l. to 4 (bytes kind bs) e
        (⊎_elim (λ (q : kind ≡ 4). subst (λ (j : ℕ). Fitted 4 path (bytes j bs)) (sym q) (path, (any-octets, refl)))
        (⊎_elim (λ (q : kind ≡ 12). subst (λ (j : ℕ). Fitted 4 path (bytes j bs)) (sym q) (path, (any-text, refl)))
        (λ (q : kind ≡ 13). never (sym (ap is_listed q) ∙ l)))
        (part-kinds kind i)))
        (λ e l. subst (λ (j : ℕ). Fitted what path (bytes j bs)) (sym l)
        (⊎_elim
        (λ (k : what < 2). to 1 (bytes 12 bs) (omega arith)
        (path, (a-name (let one : 1 ≡ what = omega arith in ap (λ (j : ℕ). part_suits j 12 bs) one ∙ ap (λ (j : ℕ). part_suits what j bs) (sym l) ∙ y), refl)))
        (λ (k : 2 ≤ what). to 2 (bytes 12 bs) (omega arith) (path, (a-text, refl))) (lt-or-le what 2)))
        (λ e l. ⊎_elim (λ (q : kind ≡ 4). absurd (omega arith))
        (⊎_elim (λ (q : kind ≡ 12). absurd (omega arith)) (λ (q : kind ≡ 13). absurd (omega arith))) (part-kinds kind i))
        (λ e l. subst (λ (j : ℕ). Fitted what path (bytes j bs)) (sym l) (to 6 (bytes 13 bs) e (path-fits bs b (arcs bs 0 (length bs)) refl
        (ap (λ (j : ℕ). part_suits j 13 bs) (sym e) ∙ ap (λ (j : ℕ). part_suits what j bs) (sym l) ∙ y))))
        (λ e l. subst (λ (j : ℕ). Fitted what path (bytes j bs)) (sym l) (to 7 (bytes 13 bs) e (list-fits bs b (arcs bs 0 (length bs)) refl
        (ap (λ (j : ℕ). part_suits j 13 bs) (sym e) ∙ ap (λ (j : ℕ). part_suits what j bs) (sym l) ∙ y))))
        (λ e l. ⊎_elim (λ (q : kind ≡ 4). absurd (omega arith))
        (⊎_elim (λ (q : kind ≡ 12). absurd (omega arith)) (λ (q : kind ≡ 13). absurd (omega arith))) (part-kinds kind i))

    fitted : (content : List ℕ) (x : Content) → Told content x → Below 256 content → suits what x ≡ true → path_of what (length path) (x ∷ []) ≤ 16
        → Fitted what path x
    unfolding suits
    fitted content nothing t b e l = absurd t
    fitted content (word kind w) t b e l =
        let a = (unless (eqb what 0) _ e).1 in
        let c = both_right (ltb w 18446744073709551616) _ (both_right (is_word kind) _ a) in
        word_fits kind w (both_left (is_word kind) _ a) (both_left (expects what kind) _ c) (both_right (expects what kind) _ c) (λ q. simp (eq-eqb _ _ q) at l)
    fitted content (bytes kind bs) t b e l =
        let a = (unless (eqb what 0) _ e).1 in
        let c = both_right (is_part kind) _ a in
        bytes-fits kind bs (subst (Below 256) t.1 b) (both_left (is_part kind) _ a) (both_left (expects what kind) _ c) (both_right (expects what kind) _ c)
    fitted content wrong t b e l = absurd t

    pub suits-fitted : {type : ℕ} {content : List ℕ} {x : Content} → Says type content x → Below 256 content → suits what x ≡ true
        → path_of what (length path) (x ∷ []) ≤ 16 → (path' : List ℕ) × (Fits what path x path' × (path_of what (length path) (x ∷ []) ≡ length path'))
    suits-fitted {content = content} {x = x} s b e l = fitted content x (told s b) b e l
