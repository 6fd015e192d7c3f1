-- Each row that the reader leaves is read, by the struct of its kind, as the entry that the rules name: for every message and table.
-- `read_at` (crates/glow_reader/specs/Message.antt) is the reader's answer and the table after it, `walk` gives the entries of a message, and
-- `Told` (specs/Told.antt) says what a struct is to make of an entry.
use Prim.Native.Nat.{ℕ, zero, suc, ◌+◌, ◌-◌, ◌≤◌, ◌<◌}
use mathlib.Core.Path.{◌≡◌, refl, sym, ap, subst, ◌∙◌}
use mathlib.Core.List.{List, [], ◌∷◌, ◌++◌}
use mathlib.Core.Bool.{true}
use native.Mathlib.Omega.{arith}
use lib.ListN.{length, get_or}
use lib.Dec.{eqb}
use Rattle.ber_integers.proofs.Radix.{Below}
use Rattle.glow_rows.specs.declared.Cell.{Cell}
use Rattle.glow_rows.specs.Cell.{absent}
use Rattle.glow_rows.specs.Entry.{Entry, Entries, Rows, blank, row, overlay}
use Rattle.glow_grammar.specs.Grammar.{rule_of, requirements, required}
use Rattle.glow_walk.specs.Walk.{walk}
use Rattle.glow_reader.specs.declared.Answer.TheVariants.{Read}
use Rattle.glow_reader.specs.Message.{read_at}
use Rattle.glow_trees.specs.Content.{Content, nothing, content_of, contents_of, Item, item_of, items_of}
use Rattle.glow_trees.specs.Trees.{Trees, none, tree, count, flat}
use Rattle.glow_trees.specs.Legal.{rule_at, suits, suited, present, complete, path_after, is_root, legal, legal_root}
use Rattle.base_choices.proofs.Laws.{both_left, both_right}
use Rattle.trees_read_back.proofs.Growth.{right}
use Rattle.trees_accepted.proofs.Tables.{Kind, stands-kind, required-some}
use Rattle.trees_accepted.proofs.Lists.{flat-length}
use Rattle.trees_accepted.proofs.Message.{is-legal}
use Rattle.trees_round_trip.proofs.Rows.{legal-held}
use Rattle.trees_round_trip.proofs.Reading.{read_walk}
use Rattle.entries_from_rows.specs.Told.{Told}
use Rattle.entries_from_rows.proofs.Cells.{shape, there}
use Rattle.entries_from_rows.proofs.Records.{told-kind}

-- ---- what holds of each entry of a legal tree, by its place

record Good (i : ℕ) (x : Item) : Type 0 where
  pub kind : Kind x.kind
  pub size : length x.members ≡ 16
  pub suit : suited x.kind 0 x.members ≡ true
  pub full : complete (required x.kind) x.members ≡ true
  pub before : x.parent ≤ i

abbrev AllGood : ℕ → List Item → Type 0
AllGood i [] = Unit {0}
AllGood i (x ∷ xs) = Good i x × AllGood (suc i) xs

good-append : (i : ℕ) (a b : List Item) → AllGood i a → AllGood (i + length a) b → AllGood i (a ++ b)
good-append i [] b x y = let e : i + 0 ≡ i = omega arith in subst (λ (j : ℕ). AllGood j b) e y
good-append i (z ∷ a) b x y =
    let e : i + suc (length a) ≡ suc i + length a = omega arith in
    (x.0, good-append (suc i) a b x.1 (subst (λ (j : ℕ). AllGood j b) e y))

flat_good : (t : Trees) (which k above parent i : ℕ) → legal which k above t ≡ true → parent ≤ i → AllGood i (flat parent i t)
unfolding flat
flat_good none which k above parent i e h = tt
flat_good (tree kind members kids links rest) which k above parent i e h =
    let r = right which k above kind members kids links rest e in
    let path = path_after kind above members in
    let ks = flat (suc i) (suc i) kids in
    let ls = flat (suc i) (suc i + count kids) links in
    let rs = flat parent (suc i + (count kids + count links)) rest in
    let a = flat_good kids 1 (k - 4) path (suc i) (suc i) (legal-held (eqb (rule_of kind 2) 14) 1 (k - 4) path kids r.below) (omega arith) in
    let b = flat_good links 2 (k - 4) path (suc i) (suc i + count kids) (legal-held (eqb (rule_of kind 5) 15) 2 (k - 4) path links r.linked) (omega arith) in
    let c = flat_good rest which k above parent (suc i + (count kids + count links)) r.others (omega arith) in
    let m = flat-length (suc i) (suc i) kids in
    let n = flat-length (suc i) (suc i + count kids) links in
    let u : suc i + (count kids + count links) ≡ suc i + count kids + length ls = omega arith in
    let w : suc i + count kids ≡ suc i + length ks = omega arith in
    let d = good-append (suc i + count kids) ls rs b (subst (λ (j : ℕ). AllGood j rs) u c) in (
      record { kind = stands-kind which kind r.stands; size = r.size; suit = r.suit; full = r.all; before = h },
      good-append (suc i) ks (ls ++ rs) a (subst (λ (j : ℕ). AllGood j (ls ++ rs)) w d),
    )

-- ---- the entry at a place

abbrev entry_at : Entries → ℕ → Entry
entry_at es i = get_or es i (blank 0 0)

good-at : (s : List ℕ) (es : Entries) (n i : ℕ) → AllGood n (items_of s es) → i < length es → Good (n + i) (item_of s (entry_at es i))
unfolding items_of
good-at s [] n i g h = absurd (omega arith)
good-at s (e ∷ es) n zero g h = let z : n ≡ n + 0 = omega arith in subst (λ (j : ℕ). Good j (item_of s e)) z g.0
good-at s (e ∷ es) n (suc i) g h =
    let z : suc n + i ≡ n + suc i = omega arith in
    let k : i < length es = omega arith in
    subst (λ (j : ℕ). Good j (item_of s (entry_at es i))) z (good-at s es (suc n) i g.1 k)

row_at : (es : Entries) (rows : Rows) (i : ℕ) → i < length es → length es ≤ length rows → get_or (overlay es rows) i [] ≡ row (entry_at es i)
unfolding overlay
row_at [] rows i h l = absurd (omega arith)
row_at (e ∷ es) [] i h l = absurd (omega arith)
row_at (e ∷ es) (r ∷ rows) zero h l = refl
row_at (e ∷ es) (r ∷ rows) (suc i) h l =
    let a : i < length es = omega arith in
    let b : length es ≤ length rows = omega arith in
    row_at es rows i a b

-- its cells suit their rules, and the required ones are there
contents-length : (s : List ℕ) (vs : List Cell) → length (contents_of s vs) ≡ length vs
unfolding contents_of
contents-length s [] = refl
contents-length s (v ∷ vs) = ap suc (contents-length s vs)

contents-at : (s : List ℕ) (vs : List Cell) (c : ℕ) → get_or (contents_of s vs) c nothing ≡ content_of s (get_or vs c absent)
unfolding contents_of content_of
contents-at s [] c = refl
contents-at s (v ∷ vs) zero = refl
contents-at s (v ∷ vs) (suc c) = contents-at s vs c

suited-at : (kind c : ℕ) (xs : List Content) (i : ℕ) → suited kind c xs ≡ true → suits (rule_at kind (c + i)) (get_or xs i nothing) ≡ true
unfolding suited suits
suited-at kind c [] i h = refl
suited-at kind c (x ∷ xs) zero h =
    let e : c + 0 ≡ c = omega arith in
    ap (λ (j : ℕ). suits (rule_at kind j) x) e ∙ both_left (suits (rule_at kind c) x) _ h
suited-at kind c (x ∷ xs) (suc i) h =
    let e : c + suc i ≡ suc c + i = omega arith in
    ap (λ (j : ℕ). suits (rule_at kind j) (get_or xs i nothing)) e ∙ suited-at kind (suc c) xs i (both_right (suits (rule_at kind c) x) _ h)

complete-at : (n : ℕ) (xs : List Content) (i : ℕ) → complete n xs ≡ true → i < n → present (get_or xs i nothing) ≡ true
unfolding complete
complete-at zero xs i h l = absurd (omega arith)
complete-at (suc n) [] i h l = let z : ◌≡◌ {A = ℕ} 0 1 = cc in absurd (omega arith)
complete-at (suc n) (x ∷ xs) zero h l = both_left (present x) _ h
complete-at (suc n) (x ∷ xs) (suc i) h l = let k : i < n = omega arith in complete-at n xs i (both_right (present x) _ h) k

good-told : (s : List ℕ) (e : Entry) (i : ℕ) → Good i (item_of s e) → i < 256 → Told (row e) e
unfolding required requirements
good-told s e i g l =
    let b = g.before in
    let low : e.parent ≤ 256 = omega arith in
    let size : length e.cells ≡ 16 = sym (contents-length s e.cells) ∙ g.size in
    let some : (c : ℕ) → c < required e.kind → get_or e.cells c absent ≡ absent → ⊥ =
    λ c h. there s (rule_at e.kind c) (get_or e.cells c absent)
    (ap present (sym (contents-at s e.cells c)) ∙ complete-at (required e.kind) (contents_of s e.cells) c g.full h) in
    let one = (required-some e.kind g.kind).0 in
    told-kind e.parent low e.cells size (some 0 one) e.kind g.kind
    (λ k. some 1 (two k))
    (λ c.
    let z : c ≡ 0 + c = omega arith in
    shape s (rule_at e.kind c) (get_or e.cells c absent)
    (ap (suits (rule_at e.kind c)) (sym (contents-at s e.cells c))
    ∙ ap (λ (j : ℕ). suits (rule_at e.kind j) (get_or (contents_of s e.cells) c nothing)) z
    ∙ suited-at e.kind 0 (contents_of s e.cells) c g.suit))
  where
    two : e.kind ≡ 9 → 1 < required e.kind
    two k = let q : required e.kind ≡ 2 = ap required k in omega arith

-- ---- the theorem

module _ (s : List ℕ) (octets : Below 256 s) (table : Rows) {root count : ℕ} (h : (read_at s table).answer ≡ Read root count) where
  good : AllGood 0 (items_of s (walk s).out.entries)
  unfolding legal_root
  good =
      let w = read_walk s table root count h in
      let r = is-legal s octets w.few w.answer in
      subst (AllGood 0) (sym r.1.1)
      (flat_good r.0 (walk s).which 62 0 0 0 (both_right (is_root (walk s).which) _ r.1.0) (omega arith))

  -- Each of the first `count` rows is read by its struct as the entry that the walk gives at this place.
  pub rows_told : (i : ℕ) → i < count → Told (get_or (read_at s table).rows i []) (entry_at (walk s).out.entries i)
  rows_told i l =
      let w = read_walk s table root count h in
      let es : Entries = (walk s).out.entries in
      let c = w.counts in
      let m = w.most in
      let o = w.room in
      let a : i < length es = omega arith in
      let b : length es ≤ length table = omega arith in
      let f : 0 + i < 256 = omega arith in
      let e : get_or (read_at s table).rows i [] ≡ row (entry_at es i) = ap (λ (x : Rows). get_or x i []) w.holds ∙ row_at es table i a b in
      subst (λ (r : List ℕ). Told r (entry_at es i)) (sym e) (good-told s (entry_at es i) (0 + i) (good-at s es 0 i good a) f)

  -- Its parent's place, where it has one, comes before its own.
  pub parent-before : (i : ℕ) → i < count → (entry_at (walk s).out.entries i).parent ≤ i
  parent-before i l =
      let w = read_walk s table root count h in
      let es : Entries = (walk s).out.entries in
      let c = w.counts in
      let a : i < length es = omega arith in
      let b = (good-at s es 0 i good a).before in
      omega arith
