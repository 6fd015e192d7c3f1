-- Members that were written are read into the cells of their entry, one after another.
use Prim.Native.Nat.{ℕ, zero, suc, ◌+◌, ◌-◌, ◌≤◌, ◌<◌}
use mathlib.Core.Path.{◌≡◌, refl, sym, ap, subst, ◌∙◌}
use mathlib.Core.List.{List, [], ◌∷◌, ◌++◌, append_assoc}
use mathlib.Core.Bool.{true, false}
use mathlib.Core.Logic.{inr, ⊎_elim}
use native.Mathlib.Omega.{arith}
use borrow.Author.Tests.{lt-ltb, eqb-false, ne_eqb}
use lib.ListN.{length, drop, length-append}
use lib.Seq.{get_or-append_seam, set-append_seam}
use lib.Dec.{eqb}
use Rattle.glow_rows.specs.declared.Cell.{Cell}
use Rattle.glow_rows.specs.Cell.{absent}
use Rattle.glow_rows.specs.Entry.{Entry, Entries, blank, blanks, with_cell, put_cell}
use Rattle.glow_grammar.specs.Grammar.{rule_of, required}
use Rattle.glow_steps.specs.Members.{after_listed, column}
use Rattle.glow_walk.specs.Tree.{Out, MembersGive}
use Rattle.glow_walk.proofs.Ways.{members-leaf}
use Rattle.glow_trees.specs.Content.{Content, nothing, word, bytes, wrong, is_part, is_word, content_of, contents_of}
use Rattle.glow_trees.specs.Legal.{suits, present, complete, path_of}
use Rattle.glow_trees.specs.Written.{outer, member_octets, members_octets}
use Rattle.base_choices.proofs.Laws.{both_left, both_right}
use Rattle.trees_read_back.proofs.Bools.{never, unless, word-kinds, part-kinds}
use Rattle.trees_read_back.proofs.Standing.{till, outered}
use Rattle.trees_read_back.proofs.Leaves.{Spells, leafed, kind_of, octets_of}
use Rattle.trees_read_back.proofs.Order.{Ready, ready-order, ready-fresh, ready-skip, ready-after, column-next}
use Rattle.trees_read_back.proofs.Turns.{member-leaf}

-- an entry, with a cell put at its column
abbrev pub entry : ℕ → ℕ → List Cell → Entry
entry kind parent cells = record { kind = kind; parent = parent; cells = cells }

abbrev pub with : Entries → Entry → Entries
with pre e = pre ++ (e ∷ [])

pub put-here : (pre : Entries) (kind parent : ℕ) (vs : List Cell) (u v : Cell) (ws : List Cell) → length vs < 16
    → put_cell (with pre (entry kind parent (vs ++ (u ∷ ws)))) (length pre) (length vs) v ≡ with pre (entry kind parent (vs ++ (v ∷ ws)))
unfolding put_cell with_cell
put-here pre kind parent vs u v ws h =
    let e : Entry = entry kind parent (vs ++ (u ∷ ws)) in
    rw (get_or-append_seam pre e [] (blank 0 0), lt-ltb _ _ h, set-append_seam vs u ws v) (set-append_seam pre e [] (entry kind parent (vs ++ (v ∷ ws))))

pub says-absent : (s : List ℕ) → content_of s absent ≡ nothing
unfolding content_of
says-absent s = refl

-- a member that is there: its rule is one, its kind is small, and its octets
pub rule-some : (what : ℕ) (x : Content) → present x ≡ true → suits what x ≡ true → what ≡ 0 → ⊥
unfolding suits
rule-some what nothing p i = never p
rule-some what (word kind w) p i = eqb-false what 0 (unless (eqb what 0) _ i).0
rule-some what (bytes kind bs) p i = eqb-false what 0 (unless (eqb what 0) _ i).0
rule-some what wrong p i = never i

kind-small : (what : ℕ) (x : Content) → present x ≡ true → suits what x ≡ true → (0 < kind_of x) × (kind_of x < 31)
unfolding suits
kind-small what nothing p i = never p
kind-small what (word kind w) p i =
    ⊎_elim (λ (q : kind ≡ 1). (omega arith, omega arith))
    (⊎_elim (λ (q : kind ≡ 2). (omega arith, omega arith)) (λ (q : kind ≡ 9). (omega arith, omega arith)))
    (word-kinds kind (both_left (is_word kind) _ (unless (eqb what 0) _ i).1))
kind-small what (bytes kind bs) p i =
    ⊎_elim (λ (q : kind ≡ 4). (omega arith, omega arith))
    (⊎_elim (λ (q : kind ≡ 12). (omega arith, omega arith)) (λ (q : kind ≡ 13). (omega arith, omega arith)))
    (part-kinds kind (both_left (is_part kind) _ (unless (eqb what 0) _ i).1))
kind-small what wrong p i = never i

member-outer : (real : ℕ → List ℕ) (n what : ℕ) (x : Content) → present x ≡ true → suits what x ≡ true
    → member_octets real n x ≡ outer n 0 false (kind_of x) (octets_of real x)
unfolding member_octets suits
member-outer real n what nothing p i = never p
member-outer real n what (word kind w) p i = refl
member-outer real n what (bytes kind bs) p i = refl
member-outer real n what wrong p i = never i

-- the members from n on suit their rules; a row that has neither numbers of a path nor what holds others
abbrev pub Fit : ℕ → ℕ → List Content → Type 0
Fit row n [] = Unit {0}
Fit row n (x ∷ xs) = (suits (rule_of row n) x ≡ true) × Fit row (suc n) xs

abbrev pub Plain : ℕ → Type 0
Plain row = (m : ℕ) → (rule_of row m < 13) × ((rule_of row m ≡ 5 → ⊥) × (rule_of row m ≡ 6 → ⊥))

path-plain : (what above : ℕ) (x : Content) → (what ≡ 5 → ⊥) → (what ≡ 6 → ⊥) → path_of what above (x ∷ []) ≡ above
path-plain what above nothing h k = refl
path-plain what above (word kind w) h k = simp (ne_eqb _ _ h)
path-plain what above (bytes kind bs) h k = simp (ne_eqb _ _ k)
path-plain what above wrong h k = refl

complete-next : (m : ℕ) (x : Content) (xs : List Content) → complete m (x ∷ xs) ≡ true → complete (m - 1) xs ≡ true
unfolding complete
complete-next zero x xs e = refl
complete-next (suc m) x xs e = let i : suc m - 1 ≡ m = omega arith in rw i (both_right (present x) _ e)

complete-none : (m : ℕ) (xs : List Content) → complete m (nothing ∷ xs) ≡ true → m ≡ 0
unfolding complete
complete-none zero xs e = refl
complete-none (suc m) xs e = never e

module _ (real : ℕ → List ℕ) (spells : Spells real) (s : List ℕ) (few : length s ≤ 16384) (end k row : ℕ) (some : 0 < k) where
  -- one member that is there
  pub record One (me above path p before n : ℕ) (x : Content) (rest : List ℕ) : Type 0 where
    pub value : Cell
    pub says : content_of s value ≡ x
    pub next : ℕ
    pub goes : next ≡ p + length (member_octets real n x)
    pub there : drop next s ≡ rest
    pub gives : (es : Entries) (y : Out) → MembersGive s k (till end) row me path next (after_listed row before n) (put_cell es me (column row n) value) y
        → MembersGive s k (till end) row me above p before es y

  pub one-read : (me above p before n : ℕ) (x : Content) (rest : List ℕ) → present x ≡ true → suits (rule_of row n) x ≡ true → rule_of row n < 13
      → (rule_of row n ≡ 5 → above < 16) → n < 31 → Ready row before n → drop p s ≡ member_octets real n x ++ rest
      → p + length (member_octets real n x) ≤ end → One me above (path_of (rule_of row n) above (x ∷ [])) p before n x rest
  one-read me above p before n x rest there fits low deep small ready t inside =
      let what = rule_of row n in
      let e = member-outer real n what x there fits in
      let ks = kind-small what x there fits in
      let lo : 0 < kind_of x = ks.0 in
      let i : p + length (outer n 0 false (kind_of x) (octets_of real x)) ≤ end = rw e at inside in
      let y = outered s few p end n 0 false (kind_of x) (octets_of real x) rest small ks.1 (omega arith)
      (t ∙ ap (λ (l : List ℕ). l ++ rest) e) i in
      let ends = y.ends in
      let later = y.later in
      let later' = y.later' in
      let room = y.room in
      let f = leafed s y.a y.b what above rest real spells x there fits deep y.there (omega arith) in
      let m = member-leaf s p end k row above before n rest some (ready-order row before n ready n (omega arith) (inr refl))
      (ready-fresh row before n ready n (omega arith)) what refl (rule-some what x there fits) (kind_of x) (octets_of real x) y low {v = f.value} f.kept in
      record {
        value = f.value;
        says = f.says;
        next = y.q;
        goes = y.next ∙ ap (λ (l : List ℕ). p + length l) (sym e);
        there = y.after;
        gives = λ es z r. members-leaf s k (till end) row me above p before es {v = f.value} m y.within (omega arith) r;
      }

  -- members one after another, whose cells are absent so far: `vs` are the cells before theirs, `ws` those after
  module _ (pre : Entries) (kind parent above : ℕ) (ws : List Cell) (rest : List ℕ) (plain : Plain row) where
    pub record Several (p before n : ℕ) (vs : List Cell) (xs : List Content) : Type 0 where
      pub us : List Cell
      pub sized : length us ≡ length xs
      pub says : contents_of s us ≡ xs
      pub next : ℕ
      pub goes : next ≡ p + length (members_octets real n xs)
      pub there : drop next s ≡ rest
      pub after : ℕ
      pub ready : Ready row after (n + length xs)
      pub gives : (y : Out) → MembersGive s k (till end) row (length pre) above next after (with pre (entry kind parent (vs ++ (us ++ ws)))) y
          → MembersGive s k (till end) row (length pre) above p before (with pre (entry kind parent (vs ++ (blanks (length xs) ++ ws)))) y

    abbrev pub Whole : List Content → Type 0
    Whole xs =
        (p before n : ℕ) (vs : List Cell) → Fit row n xs → complete (required row - n) xs ≡ true → Ready row before n → column row n ≡ length vs
        → length vs + length xs ≤ 16 → n + length xs < 31 → drop p s ≡ members_octets real n xs ++ rest
        → p + length (members_octets real n xs) ≤ end → Several p before n vs xs

    none_read : Whole []
    unfolding contents_of members_octets blanks
    none_read p before n vs fit all ready c room small t inside =
        let e : n ≡ n + 0 = omega arith in
        record {
          us = [];
          sized = refl;
          says = refl;
          next = p;
          goes = omega arith;
          there = t;
          after = before;
          ready = subst (Ready row before) e ready;
          gives = λ y r. r;
        }

    -- the cells of the entry, and those after one more
    along : (p before : ℕ) (vs : List Cell) (v : Cell) (us : List Cell) (y : Out)
        → MembersGive s k (till end) row (length pre) above p before (with pre (entry kind parent ((vs ++ (v ∷ [])) ++ us))) y
        → MembersGive s k (till end) row (length pre) above p before (with pre (entry kind parent (vs ++ (v ∷ us)))) y
    along p before vs v us y g =
        subst (λ (cs : List Cell). MembersGive s k (till end) row (length pre) above p before (with pre (entry kind parent cs)) y)
        (append_assoc vs (v ∷ []) us) g

    back : (p before : ℕ) (vs : List Cell) (v : Cell) (us : List Cell) (y : Out)
        → MembersGive s k (till end) row (length pre) above p before (with pre (entry kind parent (vs ++ (v ∷ us)))) y
        → MembersGive s k (till end) row (length pre) above p before (with pre (entry kind parent ((vs ++ (v ∷ [])) ++ us))) y
    back p before vs v us y g =
        subst (λ (cs : List Cell). MembersGive s k (till end) row (length pre) above p before (with pre (entry kind parent cs)) y)
        (sym (append_assoc vs (v ∷ []) us)) g

    skip_step : (p before n : ℕ) (vs : List Cell) (xs : List Content) → Several p before (suc n) (vs ++ (absent ∷ [])) xs
        → Several p before n vs (nothing ∷ xs)
    unfolding contents_of members_octets member_octets blanks
    skip_step p before n vs xs r =
        let e : suc n + length xs ≡ n + suc (length xs) = omega arith in
        record {
          us = absent ∷ r.us;
          sized = ap suc r.sized;
          says = rw (says-absent s, r.says) refl;
          next = r.next;
          goes = r.goes;
          there = r.there;
          after = r.after;
          ready = subst (Ready row r.after) e r.ready;
          gives = λ y g. along p before vs absent (blanks (length xs) ++ ws) y (r.gives y (back r.next r.after vs absent (r.us ++ ws) y g));
        }

    one-step : (p before n : ℕ) (vs : List Cell) (x : Content) (xs : List Content)
        (o : One (length pre) above above p before n x (members_octets real (suc n) xs ++ rest))
        → column row n ≡ length vs → length vs < 16
        → Several o.next (after_listed row before n) (suc n) (vs ++ (o.value ∷ [])) xs → Several p before n vs (x ∷ xs)
    unfolding contents_of members_octets blanks
    one-step p before n vs x xs o c low r =
        let e : suc n + length xs ≡ n + suc (length xs) = omega arith in
        let l : length (member_octets real n x ++ members_octets real (suc n) xs) ≡ length (member_octets real n x) + length (members_octets real (suc n) xs) =
        length-append (member_octets real n x) (members_octets real (suc n) xs) in
        let g0 = o.goes in
        let g1 = r.goes in
        record {
          us = o.value ∷ r.us;
          sized = ap suc r.sized;
          says = rw (o.says, r.says) refl;
          next = r.next;
          goes = omega arith;
          there = r.there;
          after = r.after;
          ready = subst (Ready row r.after) e r.ready;
          gives = λ y g. o.gives (with pre (entry kind parent (vs ++ (absent ∷ (blanks (length xs) ++ ws))))) y
              (subst (λ (es : Entries). MembersGive s k (till end) row (length pre) above o.next (after_listed row before n) es y)
              (sym (ap (λ (i : ℕ). put_cell (with pre (entry kind parent (vs ++ (absent ∷ (blanks (length xs) ++ ws))))) (length pre) i o.value) c
              ∙ put-here pre kind parent vs absent o.value (blanks (length xs) ++ ws) low))
              (along o.next (after_listed row before n) vs o.value (blanks (length xs) ++ ws) y
              (r.gives y (back r.next r.after vs o.value (r.us ++ ws) y g))));
        }

    skip_read : (xs : List Content) → Whole xs → Whole (nothing ∷ xs)
    unfolding members_octets member_octets
    skip_read xs more p before n vs fit all ready c room small t inside =
        let z = complete-none (required row - n) xs all in
        let i : required row - n - 1 ≡ required row - suc n = omega arith in
        let l : length (vs ++ (absent ∷ [])) ≡ length vs + 1 = length-append vs (absent ∷ []) in
        let cn = column-next row n in
        skip_step p before n vs xs
        (more p before (suc n) (vs ++ (absent ∷ [])) fit.1 (subst (λ (m : ℕ). complete m xs ≡ true) i (complete-next (required row - n) nothing xs all))
        (ready-skip row before n ready (suc n) (omega arith) (omega arith)) (omega arith) (omega arith) (omega arith) t inside)

    here-read : (x : Content) (xs : List Content) → present x ≡ true → Whole xs → Whole (x ∷ xs)
    unfolding members_octets
    here-read x xs there more p before n vs fit all ready c room small t inside =
        let first = member_octets real n x in
        let others = members_octets real (suc n) xs in
        let pl = plain n in
        let a : length (first ++ others) ≡ length first + length others = length-append first others in
        let i : required row - n - 1 ≡ required row - suc n = omega arith in
        let one = one-read (length pre) above p before n x (others ++ rest) there fit.0 pl.0 (λ q. absurd (pl.1.0 q)) (omega arith) ready
        (t ∙ append_assoc first others rest) (omega arith) in
        let o : One (length pre) above above p before n x (others ++ rest) =
        subst (λ (j : ℕ). One (length pre) above j p before n x (others ++ rest)) (path-plain (rule_of row n) above x pl.1.0 pl.1.1) one in
        let l : length (vs ++ (o.value ∷ [])) ≡ length vs + 1 = length-append vs (o.value ∷ []) in
        let cn = column-next row n in
        let g = o.goes in
        one-step p before n vs x xs o c (omega arith)
        (more o.next (after_listed row before n) (suc n) (vs ++ (o.value ∷ [])) fit.1
        (subst (λ (m : ℕ). complete m xs ≡ true) i (complete-next (required row - n) x xs all))
        (ready-after row before n n ready (omega arith)) (omega arith) (omega arith) (omega arith) o.there (omega arith))

    pub several-read : (xs : List Content) → Whole xs
    several-read [] = none_read
    several-read (nothing ∷ xs) = skip_read xs (several-read xs)
    several-read (word kind w ∷ xs) = here-read (word kind w) xs refl (several-read xs)
    several-read (bytes kind bs ∷ xs) = here-read (bytes kind bs) xs refl (several-read xs)
    several-read (wrong ∷ xs) = here-read wrong xs refl (several-read xs)
