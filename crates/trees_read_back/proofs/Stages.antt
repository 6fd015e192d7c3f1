-- The parts of an element behind its number or path: contents, then a collection, each left out where it is empty.
use Rattle.std.specs.Prelude.{Ok}
use Prim.Native.Nat.{ℕ, suc, ◌+◌, ◌-◌, ◌≤◌, ◌<◌}
use mathlib.Core.Path.{◌≡◌, refl, sym, ap, subst, ◌∙◌}
use mathlib.Core.List.{List, [], ◌∷◌, ◌++◌, append-nil}
use mathlib.Core.Bool.{Bool, true, false}
use mathlib.Core.Logic.{inl}
use native.Mathlib.Omega.{arith}
use borrow.Author.Tests.{leb-true}
use lib.ListN.{length, drop, length-append}
use lib.Dec.{leb, eqb}
use Rattle.base_choices.specs.Choices.{pick}
use Rattle.base_choices.proofs.Laws.{both_left, both_right}
use Rattle.ber_tags.specs.Write.{tag_octets, length_octets}
use Rattle.ber_tags.proofs.Written.{tag-cons}
use Rattle.glow_rows.specs.declared.Cell.{Cell}
use Rattle.glow_rows.specs.Entry.{Entries, blanks}
use Rattle.glow_grammar.specs.Grammar.{rule_of, required, is_set, contents_of, inner_class, inner_number, collection_of}
use Rattle.glow_steps.specs.Members.{after_listed, column}
use Rattle.glow_walk.specs.Tree.{Out, out, closed, MembersGive, ItemsGive}
use Rattle.glow_walk.proofs.Ways.{members-done, contents-in, list-in}
use Rattle.glow_trees.specs.Content.{Content, nothing, word, bytes, wrong, contents_of as say, items_of}
use Rattle.glow_trees.specs.Trees.{Trees, none, tree, count, flat, stands_in}
use Rattle.glow_trees.specs.Legal.{suits, empty, complete, legal}
use Rattle.glow_trees.specs.Written.{tagged, outer, spelled, member_octets, members_octets, wrapped, trees_octets}
use Rattle.trees_read_back.proofs.Bools.{never}
use Rattle.trees_read_back.proofs.Standing.{till, tag_of, outered, last-here}
use Rattle.trees_read_back.proofs.Leaves.{Spells}
use Rattle.trees_read_back.proofs.Order.{Ready, ready-start, ready-order, ready-fresh, ready-skip, ready-done, ready-after, set-required}
use Rattle.trees_read_back.proofs.Turns.{member-done, member-contents, member-items}
use Rattle.trees_read_back.proofs.Members.{entry, with, says-absent, Fit, Plain, Several, several-read}

-- a tag has an octet
pub tagged-some : (class : ℕ) (c : Bool) (n : ℕ) (xs : List ℕ) → 0 < length (tagged class c n xs)
unfolding tagged
tagged-some class c n xs =
    let tag = tag_octets class c n in
    let l : length (tag ++ (length_octets (length xs) ++ xs)) ≡ length tag + length (length_octets (length xs) ++ xs) =
    length-append tag (length_octets (length xs) ++ xs) in
    let t = ap length (tag-cons class c n) in
    omega arith

-- members of which none is there, and others
empty-octets : (real : ℕ → List ℕ) (n : ℕ) (xs : List Content) → empty xs ≡ true → members_octets real n xs ≡ []
unfolding empty members_octets member_octets
empty-octets real n [] e = refl
empty-octets real n (nothing ∷ xs) e = empty-octets real (suc n) xs e
empty-octets real n (word kind w ∷ xs) e = never e
empty-octets real n (bytes kind bs ∷ xs) e = never e
empty-octets real n (wrong ∷ xs) e = never e

empty-cells : (s : List ℕ) (xs : List Content) → empty xs ≡ true → say s (blanks (length xs)) ≡ xs
unfolding empty say blanks
empty-cells s [] e = refl
empty-cells s (nothing ∷ xs) e = rw (says-absent s, empty-cells s xs e) refl
empty-cells s (word kind w ∷ xs) e = never e
empty-cells s (bytes kind bs ∷ xs) e = never e
empty-cells s (wrong ∷ xs) e = never e

longer : (a b : List ℕ) → 0 < length a → 0 < length (a ++ b)
longer a b h = let l = length-append a b in omega arith

some-octets : (real : ℕ → List ℕ) (row n : ℕ) (xs : List Content) → empty xs ≡ false → Fit row n xs → 0 < length (members_octets real n xs)
unfolding empty members_octets member_octets suits
some-octets real row n [] e f = never (sym e)
some-octets real row n (nothing ∷ xs) e f = some-octets real row (suc n) xs e f.1
some-octets real row n (word kind w ∷ xs) e f =
    longer (outer n 0 false kind (spelled real kind w)) (members_octets real (suc n) xs) (tagged-some 2 true n (tagged 0 false kind (spelled real kind w)))
some-octets real row n (bytes kind bs ∷ xs) e f =
    longer (outer n 0 false kind bs) (members_octets real (suc n) xs) (tagged-some 2 true n (tagged 0 false kind bs))
some-octets real row n (wrong ∷ xs) e f = never f.0

wrapped-none : (n class number : ℕ) (l : List ℕ) → l ≡ [] → wrapped n class number l ≡ []
unfolding wrapped
wrapped-none n class number l e = rw e

wrapped-some : (n class number : ℕ) (l : List ℕ) → 0 < length l → wrapped n class number l ≡ outer n class true number l
unfolding wrapped
wrapped-some n class number [] h = absurd (omega arith)
wrapped-some n class number (x ∷ xs) h = refl

pub closes : (s : List ℕ) (q j : ℕ) → closed s (till q) j (Ok q) ≡ Ok q
unfolding closed
closes s q j = last-here s q q j refl

-- The trees of a collection, read from p to its end.
pub record Grown (s : List ℕ) (k end which parent above p : ℕ) (es : Entries) (t : Trees) : Type 0 where
  pub more : Entries
  pub says : items_of s more ≡ flat parent (length es) t
  pub sized : length more ≡ count t
  pub gives : ItemsGive s k (till end) which parent above p es (out (Ok end) (es ++ more))

abbrev pub Grows : (ℕ → List ℕ) → List ℕ → Trees → Type 0
Grows real s t =
    (k end which parent above p : ℕ) (es : Entries) (rest : List ℕ) → legal which k above t ≡ true → drop p s ≡ trees_octets real t ++ rest
    → p + length (trees_octets real t) ≡ end → Grown s k end which parent above p es t

trees-some : (real : ℕ → List ℕ) (kind : ℕ) (members : List Content) (kids links rest : Trees)
    → 0 < length (trees_octets real (tree kind members kids links rest))
unfolding trees_octets
trees-some real kind members kids links rest = longer (outer 0 1 true _ _) (trees_octets real rest) (tagged-some 2 true 0 _)

legal-deep : (which k above kind : ℕ) (members : List Content) (kids links rest : Trees)
    → legal which k above (tree kind members kids links rest) ≡ true → 3 ≤ k
unfolding legal
legal-deep which k above kind members kids links rest e =
    leb-true 3 k (both_left (leb 3 k) _ (both_right (eqb (length members) 16) _ (both_right (stands_in which kind) _ e)))

module _ (real : ℕ → List ℕ) (spells : Spells real) (s : List ℕ) (few : length s ≤ 16384) (end k kind : ℕ) (pre : Entries) (parent above : ℕ) where
  -- from one place among the members to another
  abbrev pub Moves : ℕ → ℕ → Entries → ℕ → ℕ → Entries → Type 0
  Moves p before es p' before' es' =
      (y : Out) → MembersGive s k (till end) kind (length pre) above p' before' es' y → MembersGive s k (till end) kind (length pre) above p before es y

  -- contents
  pub record Contented (p before : ℕ) (v : Cell) (xs : List Content) (rest : List ℕ) : Type 0 where
    pub us : List Cell
    pub says : say s us ≡ xs
    pub next : ℕ
    pub goes : next ≡ p + length (wrapped 1 0 17 (members_octets real 0 xs))
    pub there : drop next s ≡ rest
    pub after : ℕ
    pub ready : Ready kind after 2
    pub gives : Moves p before (with pre (entry kind parent (v ∷ blanks (length xs)))) next after (with pre (entry kind parent (v ∷ us)))

  contents-none : (p before : ℕ) (v : Cell) (xs : List Content) (rest : List ℕ) → empty xs ≡ true → Ready kind before 1 → required kind ≤ 1
      → drop p s ≡ wrapped 1 0 17 (members_octets real 0 xs) ++ rest → Contented p before v xs rest
  contents-none p before v xs rest e ready one t =
      let w = wrapped-none 1 0 17 (members_octets real 0 xs) (empty-octets real 0 xs e) in
      let l = ap length w in
      record {
        us = blanks (length xs);
        says = empty-cells s xs e;
        next = p;
        goes = omega arith;
        there = t ∙ ap (λ (l : List ℕ). l ++ rest) w;
        after = before;
        ready = ready-skip kind before 1 ready 2 (omega arith) one;
        gives = λ y g. g;
      }

  module _ (v : Cell) (xs : List Content) (q j p : ℕ) (short : suc (length xs) ≤ 16) (set : is_set (contents_of kind) ≡ true) (plain : Plain (contents_of kind))
      (fit : Fit (contents_of kind) 0 xs) (some : 0 < j) (rest : List ℕ) (t : drop p s ≡ members_octets real 0 xs ++ rest)
      (ends : p + length (members_octets real 0 xs) ≡ q) where
    -- the members of the contents
    abbrev row : ℕ
    row = contents_of kind

    first-column : column row 0 ≡ 1
    unfolding column
    first-column = rw set

    no_more : complete (required row - 0) xs ≡ true
    unfolding complete
    no_more = let z = set-required row set in let i : required row - 0 ≡ 0 = omega arith in rw i

    inside : Several real spells s few q j row some pre kind parent above [] rest plain p 0 0 (v ∷ []) xs
    inside =
        several-read real spells s few q j row some pre kind parent above [] rest plain xs p 0 0 (v ∷ []) fit no_more (ready-start row)
        first-column (omega arith) (omega arith) t (omega arith)

    filled : MembersGive s j (till q) row (length pre) above p 0 (with pre (entry kind parent (v ∷ (blanks (length xs) ++ []))))
        (out (Ok inside.next) (with pre (entry kind parent (v ∷ (inside.us ++ [])))))
    filled =
        let z = set-required row set in
        let g = inside.goes in
        inside.gives (out (Ok inside.next) (with pre (entry kind parent (v ∷ (inside.us ++ [])))))
        (members-done s j (till q) row (length pre) above inside.next inside.after (with pre (entry kind parent (v ∷ (inside.us ++ []))))
        (member-done s inside.next q j row above inside.after (omega arith)
        (ready-done row inside.after (0 + length xs) inside.ready (omega arith))))

    -- in the container that ends at q
    pub held : (us : List Cell) × ((say s us ≡ xs) × MembersGive s j (till q) row (length pre) above p 0
        (with pre (entry kind parent (v ∷ blanks (length xs))))
        (out (Ok q) (with pre (entry kind parent (v ∷ us)))))
    held =
        let g = inside.goes in
        let e : inside.next ≡ q = omega arith in (
          inside.us,
          (
            inside.says,
            subst (λ (i : ℕ). MembersGive s j (till q) row (length pre) above p 0 (with pre (entry kind parent (v ∷ blanks (length xs))))
                (out (Ok i) (with pre (entry kind parent (v ∷ inside.us))))) e
                (subst (λ (cs : List Cell). MembersGive s j (till q) row (length pre) above p 0 (with pre (entry kind parent (v ∷ blanks (length xs))))
                (out (Ok inside.next) (with pre (entry kind parent (v ∷ cs))))) (append-nil inside.us)
                (subst (λ (cs : List Cell). MembersGive s j (till q) row (length pre) above p 0 (with pre (entry kind parent (v ∷ cs)))
                (out (Ok inside.next) (with pre (entry kind parent (v ∷ (inside.us ++ [])))))) (append-nil (blanks (length xs))) filled)),
          ),
        )

  contents-some : (p before : ℕ) (v : Cell) (xs : List Content) (rest : List ℕ) → empty xs ≡ false → Ready kind before 1 → required kind ≤ 1
      → suc (length xs) ≤ 16 → is_set (contents_of kind) ≡ true → Plain (contents_of kind) → Fit (contents_of kind) 0 xs → rule_of kind 1 ≡ 13 → 3 ≤ k
      → drop p s ≡ wrapped 1 0 17 (members_octets real 0 xs) ++ rest → p + length (wrapped 1 0 17 (members_octets real 0 xs)) ≤ end
      → Contented p before v xs rest
  contents-some p before v xs rest e ready one short set plain fit rule deep t inside' =
      let all = members_octets real 0 xs in
      let w = wrapped-some 1 0 17 all (some-octets real (contents_of kind) 0 xs e fit) in
      let l = ap length w in
      let y = outered s few p end 1 0 true 17 all rest (omega arith) (omega arith) (omega arith) (t ∙ ap (λ (l : List ℕ). l ++ rest) w) (omega arith) in
      let h = held v xs y.q (k - 1 - 1) y.b short set plain fit (omega arith) rest y.there y.ends in
      let m = member-contents s p end k kind above before 1 rest (omega arith) (ready-order kind before 1 ready 1 (omega arith) (inl one))
      (ready-fresh kind before 1 ready 1 (omega arith)) 13 rule (λ z. omega arith) 0 17 all y (omega arith) refl refl refl in
      let later = y.later in
      let later' = y.later' in
      let ends = y.ends in
      let next = y.next in
      record {
        us = h.0;
        says = h.1.0;
        next = y.q;
        goes = omega arith;
        there = y.after;
        after = after_listed kind before 1;
        ready = ready-after kind before 1 1 ready (omega arith);
        gives = λ z g. contents-in s k (till end) kind (length pre) above p before (with pre (entry kind parent (v ∷ blanks (length xs))))
            m y.within (omega arith) h.1.1 (closes s y.q (k - 1)) (omega arith) g;
      }

  pub contents-read : (p before : ℕ) (v : Cell) (xs : List Content) (rest : List ℕ) → Ready kind before 1 → required kind ≤ 1
      → suc (length xs) ≤ 16 → is_set (contents_of kind) ≡ true → Plain (contents_of kind) → Fit (contents_of kind) 0 xs → rule_of kind 1 ≡ 13
      → pick (empty xs) true (leb 3 k) ≡ true
      → drop p s ≡ wrapped 1 0 17 (members_octets real 0 xs) ++ rest → p + length (wrapped 1 0 17 (members_octets real 0 xs)) ≤ end
      → Contented p before v xs rest
  contents-read p before v xs rest ready one short set plain fit rule deep t inside' = go (empty xs) refl deep
    where
      go : (b : Bool) → empty xs ≡ b → pick b true (leb 3 k) ≡ true → Contented p before v xs rest
      go true e d = contents-none p before v xs rest e ready one t
      go false e d = contents-some p before v xs rest e ready one short set plain fit rule (leb-true _ _ d) t inside'

  -- a collection, in the member n, or none
  pub record Listed (n class number p before : ℕ) (es : Entries) (t : Trees) (rest : List ℕ) : Type 0 where
    pub more : Entries
    pub says : items_of s more ≡ flat (length pre + 1) (length es) t
    pub sized : length more ≡ count t
    pub next : ℕ
    pub goes : next ≡ p + length (wrapped n class number (trees_octets real t))
    pub there : drop next s ≡ rest
    pub after : ℕ
    pub ready : Ready kind after (suc n)
    pub gives : Moves p before es next after (es ++ more)

  pub list-none : (n class number p before m : ℕ) (es : Entries) (rest : List ℕ) → m ≤ n → Ready kind before m → required kind ≤ m
      → drop p s ≡ wrapped n class number (trees_octets real none) ++ rest → Listed n class number p before es none rest
  unfolding trees_octets wrapped items_of flat count
  list-none n class number p before m es rest h ready one t = record {
    more = [];
    says = refl;
    sized = refl;
    next = p;
    goes = omega arith;
    there = t;
    after = before;
    ready = ready-skip kind before m ready (suc n) (omega arith) one;
    gives = λ y g. subst (λ (l : Entries). MembersGive s k (till end) kind (length pre) above p before l y) (append-nil es) g;
  }

  module _ (n class number which what : ℕ) (rule : rule_of kind n ≡ what) (holding : 13 < what) (classes : inner_class what ≡ class)
      (numbers : inner_number what ≡ number) (collects : collection_of what ≡ which) (small : n < 31) (small' : number < 31) (seen : 0 < class + number) where
    list-some : (p before m : ℕ) (es : Entries) (t : Trees) (rest : List ℕ) → m ≤ n → Ready kind before m → required kind ≤ m → 0 < length (trees_octets real t)
        → 1 < k → legal which (k - 1 - 1) above t ≡ true → Grows real s t
        → drop p s ≡ wrapped n class number (trees_octets real t) ++ rest → p + length (wrapped n class number (trees_octets real t)) ≤ end
        → Listed n class number p before es t rest
    list-some p before m es t rest h ready one some deep right grows d inside' =
        let all = trees_octets real t in
        let w = wrapped-some n class number all some in
        let l = ap length w in
        let y = outered s few p end n class true number all rest small small' seen (d ∙ ap (λ (l : List ℕ). l ++ rest) w) (omega arith) in
        let r = grows (k - 1 - 1) y.q which (length pre + 1) above y.b es rest right y.there y.ends in
        let i = member-items s p end k kind above before n rest (omega arith) (ready-order kind before m ready n h (inl one))
        (ready-fresh kind before m ready n h) what rule (λ z. omega arith) class number all y deep which holding classes numbers collects in
        let later = y.later in
        let later' = y.later' in
        let ends = y.ends in
        let next = y.next in
        record {
          more = r.more;
          says = r.says;
          sized = r.sized;
          next = y.q;
          goes = omega arith;
          there = y.after;
          after = after_listed kind before n;
          ready = ready-after kind before n m ready h;
          gives = λ z g. list-in s k (till end) kind (length pre) above p before es {g = tag_of class 1 number y.b y.q}
              i y.within (omega arith) r.gives (closes s y.q (k - 1)) (omega arith) g;
        }

    pub list_read : (p before m : ℕ) (es : Entries) (t : Trees) (rest : List ℕ) → m ≤ n → Ready kind before m → required kind ≤ m
        → legal which (k - 1 - 1) above t ≡ true → Grows real s t
        → drop p s ≡ wrapped n class number (trees_octets real t) ++ rest → p + length (wrapped n class number (trees_octets real t)) ≤ end
        → Listed n class number p before es t rest
    list_read p before m es none rest h ready one right grows d inside' = list-none n class number p before m es rest h ready one d
    list_read p before m es (tree kind' members kids links trees) rest h ready one right grows d inside' =
        let deep = legal-deep which (k - 1 - 1) above kind' members kids links trees right in
        list-some p before m es (tree kind' members kids links trees) rest h ready one (trees-some real kind' members kids links trees)
        (omega arith) right grows d inside'
