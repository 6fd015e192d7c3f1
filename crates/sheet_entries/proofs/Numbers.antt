-- Lists: numbers taken one by one, the first refusal.
use Prim.Native.Nat.{ℕ, suc, ◌+◌, ◌≤◌, ◌<◌}
use mathlib.Core.Path.{◌≡◌, sym, ap, subst, ◌∙◌}
use mathlib.Core.List.{List, [], ◌∷◌, ◌++◌, append-nil}
use native.Mathlib.Omega.{arith}
use borrow.Author.Tests.{eq-eqb, ne_eqb}
use lib.ListN.{length, take, drop, get_or, set, drop_of_length-le, length-append}
use lib.Seq.{drop-cons, take-suc-set, append_snoc, length-take-le}
use Rattle.glow_rows.specs.declared.Cell.{Cell}
use Rattle.glow_rows.specs.Cell.{octets_in}
use Rattle.glow_trees.specs.Content.{content_of}
use Rattle.glow_paths.specs.Paths.{octets_of, numbers_in}
use Rattle.glow_paths.proofs.Items.{octets-content}
use Rattle.sheet_rules.specs.Reading.{first_refused}
use Rattle.sheet_entries.specs.Entries.{Taken}

-- ---- numbers taken one by one: the first k are in the list, xs are left

module _ (ns list xs : List ℕ) (k : ℕ) (room : length list ≡ 16) (so : take k list ++ xs ≡ ns) where
  pub taken-end : xs ≡ [] → k ≤ 16 → Taken ns k list
  taken-end e l = record {
    all = λ h. sym (append-nil (take k list)) ∙ ap (λ (l : List ℕ). take k list ++ l) (sym e) ∙ so;
    more = λ h. absurd (omega arith);
  }

  module _ (x : ℕ) (ys : List ℕ) (e : xs ≡ x ∷ ys) where
    pub taken_more : k < 16 → take (k + 1) (set list k x) ++ ys ≡ ns
    taken_more h =
        let d : k + 1 ≡ suc k = omega arith in
        let l : k < length list = omega arith in
        ap (λ (i : ℕ). take i (set list k x) ++ ys) d ∙ ap (λ (l : List ℕ). l ++ ys) (take-suc-set list k x l)
        ∙ append_snoc (take k list) x ys ∙ ap (λ (l : List ℕ). take k list ++ l) (sym e) ∙ so

    pub taken-over : k ≡ 16 → Taken ns 17 list
    taken-over h =
        let a = ap length so in
        let b = length-append (take k list) xs in
        let c = length-take-le k list (omega arith) in
        let d = ap length e in
        record { all = λ z. absurd (omega arith); more = λ z. omega arith }

-- the numbers of a member
pub path-is : (s : List ℕ) (v : Cell) (bs : List ℕ) (r : ℕ) (list : List ℕ) → bs ≡ octets_in s v → Taken (numbers_in bs) r list
    → Taken (numbers_in (octets_of (content_of s v))) r list
path-is s v bs r list e t = subst (λ (l : List ℕ). Taken (numbers_in l) r list) (e ∙ sym (octets-content s v)) t

-- ---- the first refusal

module _ (ns : List ℕ) (i : ℕ) where
  pub refused_none : length ns ≤ i → first_refused (drop i ns) ≡ 0
  unfolding first_refused
  refused_none h = rw (drop_of_length-le ns h)

  module _ (h : i < length ns) where
    pub refused-one : (get_or ns i 0 ≡ 0 → ⊥) → first_refused (drop i ns) ≡ get_or ns i 0
    unfolding first_refused
    refused-one k = rw (drop-cons ns i 0 h, ne_eqb _ _ k)

    pub refused-more : get_or ns i 0 ≡ 0 → first_refused (drop i ns) ≡ first_refused (drop (i + 1) ns)
    unfolding first_refused
    refused-more k = let d : i + 1 ≡ suc i = omega arith in rw (drop-cons ns i 0 h, eq-eqb _ _ k, d)
