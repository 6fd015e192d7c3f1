-- What holds of every call of `read`, for what stands above it: `read_at s rows` is its answer and the table after it.
use Rattle.ber_containers.specs.declared.No.{No as Refusal}
use Rattle.std.specs.Prelude.{Ok, Err, Result as Fallible}
use Prim.Native.Nat.{ℕ, ◌≤◌, ◌<◌}
use mathlib.Core.Path.{◌≡◌, refl, sym, ap, subst, ◌∙◌}
use mathlib.Core.List.{List, [], ◌∷◌}
use mathlib.Core.Bool.{Bool, true, false}
use mathlib.Core.Logic.{inr}
use native.Mathlib.Omega.{arith}
use borrow.Author.Tests.{ltb-true, ltb-false, ne_eqb}
use lib.ListN.{length, drop}
use lib.Dec.{ltb, eqb}
use types.Run.{OneOf, hit, miss}
use Rattle.base_choices.specs.Choices.{pick}
use Rattle.base_choices.proofs.Laws.{pick-by}
use Rattle.ber_containers.specs.declared.No.{No as Refusal}
use Rattle.glow_rows.specs.Entry.{Entries, Rows, overlay}
use Rattle.glow_rows.proofs.Laws.{overlay-length}
use Rattle.glow_reader.specs.declared.Answer.{Answer}
use Rattle.glow_reader.specs.declared.Answer.TheVariants.{Setup, Refused as No, Room, Read}
use Rattle.glow_walk.specs.Walk.{walk}
use Rattle.glow_reader.specs.Message.{Reply, reply_by, refusals, read_numbers, Result, read_result, read_of, read_at, setup}
use Rattle.glow_reader.proofs.Places.{OntoIn}
use Rattle.glow_reader.proofs.Within.{EntriesIn, walk-in}

-- The answer by the bytes and the table's length alone.
abbrev judged_by : ℕ → ℕ → ℕ → Fallible ℕ Refusal → Answer
judged_by table which count (Ok next) = pick (ltb table count) (Room count) (Read which count)
judged_by table which count (Err e) = No e.0 e.1

abbrev pub answered : List ℕ → ℕ → Answer
answered s table = pick (setup (length s) table) Setup (judged_by table (walk s).which (length (walk s).out.entries) (walk s).out.answer)

pick-answer : (b : Bool) (x y : Result) → (pick b x y).answer ≡ pick b x.answer y.answer
pick-answer true x y = refl
pick-answer false x y = refl

judged-answer : (rows : Rows) (which : ℕ) (es : Entries) (a : Fallible ℕ Refusal) → (read_of rows which es a).answer ≡ judged_by (length rows) which (length es) a
judged-answer rows which es (Ok next) =
    pick-answer (ltb (length rows) (length es)) (read_result (Room (length es)) rows) (read_result (Read which (length es)) (overlay es rows))
judged-answer rows which es (Err e) = refl

pub answer-is : (s : List ℕ) (rows : Rows) → (read_at s rows).answer ≡ answered s (length rows)
unfolding read_at
answer-is s rows =
    pick-answer (setup (length s) (length rows)) (read_result Setup rows) (read_of rows (walk s).which (walk s).out.entries (walk s).out.answer)
    ∙ ap (pick (setup (length s) (length rows)) Setup) (judged-answer rows (walk s).which (walk s).out.entries (walk s).out.answer)

-- Two tables of one length, whatever they hold, get the same answer.
pub answer-by-bytes : (s : List ℕ) (rows rows' : Rows) → length rows ≡ length rows' → (read_at s rows).answer ≡ (read_at s rows').answer
answer-by-bytes s rows rows' e = answer-is s rows ∙ ap (answered s) e ∙ sym (answer-is s rows')

abbrev pub is_read : Answer → Bool
is_read Setup = false
is_read (No number place) = false
is_read (Room count) = false
is_read (Read root count) = true

-- The table after a call, by the answer. After 0: the entries, as many as told, stand in the first rows, and each text, octets, path and sources
-- that they keep is a part of the message.
pub record Filled (s : List ℕ) (rows rows' : Rows) (count : ℕ) : Type 0 where
  pub entries : Entries
  pub counts : length entries ≡ count
  pub holds : rows' ≡ overlay entries rows
  pub parts : EntriesIn s entries
  pub room : count ≤ length rows
  pub table : length rows ≤ 256

abbrev pub Ruled : List ℕ → Rows → Rows → Answer → Type 0
Ruled s rows rows' Setup = rows' ≡ rows
Ruled s rows rows' (No number place) = (rows' ≡ rows) × ((place ≤ length s) × OneOf refusals number)
Ruled s rows rows' (Room count) = (rows' ≡ rows) × (length rows < count)
Ruled s rows rows' (Read root count) = Filled s rows rows' count

-- what is said is what the answer says
said-by : (x y : Result) (b : Bool) → x.said ≡ reply_by x.answer → y.said ≡ reply_by y.answer → (pick b x y).said ≡ reply_by (pick b x y).answer
said-by x y true e f = e
said-by x y false e f = f

said_of : (rows : Rows) (which : ℕ) (es : Entries) (a : Fallible ℕ Refusal) → (read_of rows which es a).said ≡ reply_by (read_of rows which es a).answer
said_of rows which es (Ok next) =
    said-by (read_result (Room (length es)) rows) (read_result (Read which (length es)) (overlay es rows)) (ltb (length rows) (length es)) refl refl
said_of rows which es (Err e) = refl

module _ (s : List ℕ) (rows : Rows) where
  pub said-is : (read_at s rows).said ≡ reply_by (read_at s rows).answer
  unfolding read_at
  said-is =
      said-by (read_result Setup rows) (read_of rows (walk s).which (walk s).out.entries (walk s).out.answer) (setup (length s) (length rows)) refl
      (said_of rows (walk s).which (walk s).out.entries (walk s).out.answer)

  abbrev Keeps : Result → Type 0
  Keeps x = Ruled s rows x.rows x.answer

  of-walk : length rows ≤ 256 → (which : ℕ) (es : Entries) (a : Fallible ℕ Refusal) → OntoIn s 0 a → EntriesIn s es → Keeps (read_of rows which es a)
  of-walk t which es (Ok next) w h =
      pick-by Keeps (ltb (length rows) (length es)) (λ e. (refl, ltb-true (length rows) (length es) e))
      (λ e. record { entries = es; counts = refl; holds = refl; parts = h; room = ltb-false (length rows) (length es) e; table = t })
  of-walk t which es (Err e) w h = (refl, w)

  setup-no : setup (length s) (length rows) ≡ false → length rows ≤ 256
  unfolding setup
  setup-no = go (ltb 256 (length rows)) refl
    where
      go : (b : Bool) → ltb 256 (length rows) ≡ b → pick b true (ltb 16384 (length s)) ≡ false → length rows ≤ 256
      go true e h = let z : ◌≡◌ {A = ℕ} 0 1 = cc in absurd (omega arith)
      go false e h = ltb-false 256 (length rows) e

  pub ruled : Ruled s rows (read_at s rows).rows (read_at s rows).answer
  unfolding read_at
  ruled =
      pick-by Keeps (setup (length s) (length rows)) (λ e. refl)
      (λ e. of-walk (setup-no e) (walk s).which (walk s).out.entries (walk s).out.answer (walk-in s).0 (walk-in s).1)

  pub parts_within : {root count : ℕ} → (read_at s rows).answer ≡ Read root count → Filled s rows (read_at s rows).rows count
  parts_within e = subst (Ruled s rows (read_at s rows).rows) e ruled

  pub count-bounded : {root count : ℕ} → (read_at s rows).answer ≡ Read root count → (count ≤ length rows) × (length rows ≤ 256)
  count-bounded e = let f = parts_within e in (f.room, f.table)

  -- The place of a refusal lies in the message, its end included.
  pub place-within : {number place : ℕ} → (read_at s rows).answer ≡ No number place → place ≤ length s
  place-within e = (subst (Ruled s rows (read_at s rows).rows) e ruled).1.0

  -- A message is refused with 30 to 37 alone ..
  pub refusal-numbers : {number place : ℕ} → (read_at s rows).answer ≡ No number place → OneOf refusals number
  refusal-numbers e = (subst (Ruled s rows (read_at s rows).rows) e ruled).1.1

  -- The figure of ROOM is more than the rows that there are.
  pub room-more : {count : ℕ} → (read_at s rows).answer ≡ Room count → length rows < count
  room-more e = (subst (Ruled s rows (read_at s rows).rows) e ruled).1

  -- .. and every call answers with one of document 01's numbers.
  pub read-numbers : OneOf read_numbers (read_at s rows).said.number
  read-numbers = subst (λ (x : Reply). OneOf read_numbers x.number) (sym said-is) (go (read_at s rows).answer ruled)
    where
      go : (a : Answer) → Ruled s rows (read_at s rows).rows a → OneOf read_numbers (reply_by a).number
      go Setup h = hit read_numbers 1 tt
      go (No number place) h = inr (inr (inr h.1.1))
      go (Room count) h = hit read_numbers 38 tt
      go (Read root count) h = hit read_numbers 0 tt

  -- 1 is given exactly where the table has over 256 entries or the message over 16,384 bytes.
  pub read-setup : eqb (read_at s rows).said.number 1 ≡ setup (length s) (length rows)
  unfolding read_at
  read-setup = go (setup (length s) (length rows)) (walk s).out.answer (walk-in s).0
    where
      other : (e : Refusal) → OneOf refusals e.0 → eqb e.0 1 ≡ false
      other e h = ne_eqb e.0 1 (λ q. miss refusals 1 tt (subst (OneOf refusals) q h))

      go : (u : Bool) (a : Fallible ℕ Refusal) → OntoIn s 0 a
          → eqb (pick u (read_result Setup rows) (read_of rows (walk s).which (walk s).out.entries a)).said.number 1 ≡ u
      go true a w = refl
      go false (Ok next) w =
          pick-by (λ (x : Result). eqb x.said.number 1 ≡ false) (ltb (length rows) (length (walk s).out.entries)) (λ e. refl) (λ e. refl)
      go false (Err e) w = other e w.1

  -- Every answer but 0 leaves the table as it was.
  pub refused-as-was : is_read (read_at s rows).answer ≡ false → (read_at s rows).rows ≡ rows
  refused-as-was = go (read_at s rows).answer ruled
    where
      go : (a : Answer) → Ruled s rows (read_at s rows).rows a → is_read a ≡ false → (read_at s rows).rows ≡ rows
      go Setup h e = h
      go (No number place) h e = h.0
      go (Room count) h e = h.0
      go (Read root count) h e = let z : ◌≡◌ {A = ℕ} 0 1 = cc in absurd (omega arith)

  -- The table keeps its length.
  pub rows-kept : length (read_at s rows).rows ≡ length rows
  rows-kept = go (read_at s rows).answer ruled
    where
      go : (a : Answer) → Ruled s rows (read_at s rows).rows a → length (read_at s rows).rows ≡ length rows
      go Setup h = ap length h
      go (No number place) h = ap length h.0
      go (Room count) h = ap length h.0
      go (Read root count) h = ap length h.holds ∙ overlay-length h.entries rows

-- After 0 the rows past the count are as they were.
drop-overlay : (es : Entries) (rows : Rows) → drop (length es) (overlay es rows) ≡ drop (length es) rows
unfolding overlay
drop-overlay [] rows = refl
drop-overlay (e ∷ es) [] = refl
drop-overlay (e ∷ es) (r ∷ rows) = drop-overlay es rows

pub past-untouched : (s : List ℕ) (rows : Rows) {root count : ℕ} → (read_at s rows).answer ≡ Read root count
    → drop count (read_at s rows).rows ≡ drop count rows
past-untouched s rows e =
    let f = parts_within s rows e in
    subst (λ n. drop n (read_at s rows).rows ≡ drop n rows) f.counts (ap (drop (length f.entries)) f.holds ∙ drop-overlay f.entries rows)
