-- A message written, or 46.
use Rattle.std.specs.Prelude.{Some, None}
use Prim.Native.Nat.{ℕ, suc, ◌+◌, ◌-◌, ◌*◌, ◌≤◌, ◌<◌}
use mathlib.Core.Path.{◌≡◌, refl, sym, ap, subst, ◌∙◌}
use mathlib.Core.Bool.{Bool, true, false, not}
use mathlib.Core.List.{List}
use native.Mathlib.Omega.{arith}
use borrow.Author.Tests.{leb-true}
use lib.Dec.{T, leb}
use lib.ListN.{length}
use Rattle.base_choices.specs.Choices.{pick, both}
use Rattle.base_choices.proofs.Laws.{both_left, both_right}
use Rattle.ber_integers.specs.Digits.{put, unchanged, outcome}
use Rattle.ber_integers.proofs.Laws.{put-out}
use Rattle.glow_trees.specs.Content.{Item}
use Rattle.glow_trees.specs.Trees.{Trees, trees_of}
use Rattle.glow_trees.specs.Legal.{is_root, legal, legal_root}
use Rattle.glow_trees.specs.Written.{tagged, trees_octets, root_number, message_octets, written_real}
use Rattle.glow_writer.specs.declared.write.Placed.{Placed}
use Rattle.glow_sizes.specs.Accepted.{is_end, is_whole, octets_of, fits, length_of}
use Rattle.glow_writer.specs.Writes.{writes}
use Rattle.glow_member_sizes.specs.Sizes.{cap, tagged_size}
use Rattle.glow_sizes.specs.Kept.{trees_at}
use Rattle.glow_writer.specs.Puts.{Puts, head, ItemsPut}
use Rattle.glow_grammar.proofs.Tables.{root-short}
use Rattle.glow_member_sizes.proofs.Caps.{cap-in, over-tagged, tagged-over}
use Rattle.ber_integers.proofs.Radix.{lt-or-le}
use mathlib.Core.Logic.{⊎_elim}
use Rattle.glow_member_sizes.proofs.Members.{tagged-length}
use Rattle.glow_writer.proofs.Putting.{tagged-put}

never : {P : Type 0} → false ≡ true → P
never e = absurd (subst (λ (b : Bool). T (not b)) e tt)

-- there is room for what is kept
pub room_for : (n before after : ℕ) → after ≡ before → before ≡ 256 → n ≤ 256 → n ≤ after
room_for n before after h k l = omega arith

pub room_at : (n j before : ℕ) → n ≤ 256 → j < n → before ≡ 256 → j < before
room_at n j before k l h = omega arith

-- what the trees take, where the message is not too long
pub trees-small : (all a m : ℕ) → cap (tagged_size all) ≡ a → cap (tagged_size a) ≡ m → m ≤ 16384 → all ≤ 16384
trees-small all a m e i h =
    ⊎_elim
    (λ (k : 16384 < all).
    let x = tagged-over all k in
    let y = tagged-over a (omega arith) in
    absurd (omega arith))
    (λ (k : all ≤ 16384). k) (lt-or-le 16384 all)

module _ (root rows n : ℕ) (es : List Item) where
  abbrev bs : List ℕ
  bs = octets_of written_real root es

  abbrev ts : Trees
  ts = (trees_of root es).trees

  fits_bound : fits written_real root rows n es ≡ true → n ≤ rows
  unfolding fits
  fits_bound h = leb-true n rows (both_left (leb n rows) _ h)

  fits-octets : fits written_real root rows n es ≡ true → length bs ≤ 16384
  unfolding fits
  fits-octets h =
      leb-true (length bs) 16384
      (both_right (is_whole root es) (leb (length bs) 16384) (both_right (leb n 256) _ (both_right (leb n rows) _ h)))

  fits-legal : fits written_real root rows n es ≡ true → legal root 62 0 ts ≡ true
  unfolding fits is_whole legal_root
  fits-legal h =
      both_right (is_root root) (legal root 62 0 ts)
      (both_right (is_end (trees_of root es).rest) (both (is_root root) (legal root 62 0 ts))
      (both_left (both (is_end (trees_of root es).rest) (both (is_root root) (legal root 62 0 ts))) (leb (length bs) 16384)
      (both_right (leb n 256) _ (both_right (leb n rows) _ h))))

  module _ (m : ℕ) (e : length_of written_real root rows n es ≡ m) where
    fits-is : m ≤ 16384 → fits written_real root rows n es ≡ true
    unfolding length_of
    fits-is h = go (fits written_real root rows n es) e
      where
        go : (b : Bool) → pick b (length bs) 65536 ≡ m → b ≡ true
        go true i = refl
        go false i = absurd (omega arith)

    length-is : m ≤ 16384 → length bs ≡ m
    unfolding length_of
    length-is h = sym (rw (fits-is h) refl) ∙ e

    pub write-bound : m ≤ 16384 → n ≤ rows
    write-bound h = fits_bound (fits-is h)

    pub write-few : m ≤ 16384 → n ≤ 256
    unfolding fits
    write-few h = leb-true n 256 (both_left (leb n 256) _ (both_right (leb n rows) _ (fits-is h)))

    pub write-long : (out : List ℕ) → 16384 < m → writes root rows n es out ≡ outcome None out
    unfolding length_of writes
    write-long out h = go (fits written_real root rows n es) refl e
      where
        go : (b : Bool) → fits written_real root rows n es ≡ b → pick b (length bs) 65536 ≡ m → pick b (put out 0 bs) (unchanged out) ≡ outcome None out
        go true i j = let k = fits-octets i in absurd (omega arith)
        go false i j = refl

    written_as : (out : List ℕ) → m ≤ 16384 → writes root rows n es out ≡ put out 0 bs
    unfolding writes
    written_as out h = rw (fits-is h) refl

    pub write-short : (out : List ℕ) → m ≤ 16384 → (w : ℕ) → w ≡ length out → w < m → writes root rows n es out ≡ outcome None out
    write-short out h w i k = let l = length-is h in written_as out h ∙ put-out out 0 bs (omega arith)

    pub write-put : (out : List ℕ) → m ≤ 16384 → (w : ℕ) → w ≡ length out → m ≤ w → (all : ℕ) → length (trees_octets written_real (trees_of root es).trees) ≡ all
        → (a : ℕ) → cap (tagged_size all) ≡ a → (q : ℕ) (o₁ : List ℕ) → (a ≤ 16384 → Puts out 0 (head 96 a) q o₁)
        → (tag : ℕ) → tag ≡ 96 + root_number root → (p : ℕ) (o₂ : List ℕ) → (all ≤ 16384 → Puts o₁ q (head tag all) p o₂)
        → (r : Placed) (o₃ : List ℕ) → ItemsPut es root 0 62 0 0 o₂ p r o₃ → writes root rows n es out ≡ outcome (Some r.place) o₃
    unfolding ItemsPut Puts octets_of message_octets trees_of
    write-put out h w i k all g a ea q o₁ ho tag t p o₂ hi r o₃ hp =
        let l = length-is h in
        let f : length es - 0 < suc (length es) = omega arith in
        let xs : List ℕ = trees_octets written_real (trees_at es (suc (length es)) root 0 0) in
        let inner : List ℕ = tagged 1 true (root_number root) (trees_octets written_real (trees_at es (suc (length es)) root 0 0)) in
        let le = fits-legal (fits-is h) in
        let x1 = tagged-length 1 true (root_number root) (trees_octets written_real (trees_at es (suc (length es)) root 0 0)) (root-short root) in
        let x2 = tagged-length 1 true 0 (tagged 1 true (root_number root) (trees_octets written_real (trees_at es (suc (length es)) root 0 0))) (omega arith) in
        let y1 = over-tagged (length (trees_octets written_real (trees_at es (suc (length es)) root 0 0))) in
        let y2 = over-tagged (length (tagged 1 true (root_number root) (trees_octets written_real (trees_at es (suc (length es)) root 0 0)))) in
        let s1 : length (trees_octets written_real (trees_at es (suc (length es)) root 0 0)) ≤ 16384 = omega arith in
        let s2 : tagged_size (length (trees_octets written_real (trees_at es (suc (length es)) root 0 0))) ≡ tagged_size all = ap tagged_size g in
        let s3 : tagged_size all ≤ 16384 = omega arith in
        let s4 : a ≡ tagged_size all = sym ea ∙ cap-in (tagged_size all) s3 in
        let s5 : length (tagged 1 true (root_number root) (trees_octets written_real (trees_at es (suc (length es)) root 0 0))) ≡ a = omega arith in
        let y = hp (suc (length es)) f le s1 in
        let t' : tag ≡ 1 * 64 + 32 + root_number root = omega arith in
        written_as out h
        ∙ tagged-put out 0 1 true 0 96 a inner q o₁ r.place o₃ (omega arith) refl s5 ho
        (tagged-put o₁ q 1 true (root_number root) tag all xs p o₂ r.place o₃ (root-short root) t' g hi y.1)
        (omega arith) (omega arith)
