-- What the reader answers (document 01, "Glow" and "Numbers answered").
use Rattle.ber_containers.specs.declared.No.{No as Refusal}
use Rattle.std.specs.Prelude.{ℕ, List, [], ◌∷◌, Bool, true, length, ltb, Result as Fallible, Ok, Err}
use Rattle.base_choices.specs.Choices.{pick}
use Rattle.glow_rows.specs.Entry.{Entries, Rows, overlay}
use Rattle.glow_walk.specs.Walk.{Walk, walk}
use Rattle.glow_reader.specs.declared.Answer.{Answer}
use Rattle.glow_reader.specs.declared.Answer.TheVariants.{Setup, Refused as No, Room, Read}

-- What the reader answers, for each case document 01's number and values: "The answer names Root's kind."
pub record Reply : Type 0 where
  pub number : ℕ
  pub place : ℕ  -- of a refusal from 30 to 37 (request 09)
  pub count : ℕ  -- of entries read, or "38 ROOM: .. says how many"
  pub root : ℕ  -- of a message that is read: 0 elements, 3 streams

abbrev pub reply_by : Answer → Reply
reply_by Setup = record { number = 1; place = 0; count = 0; root = 0 }
reply_by (No number place) = record { number = number; place = place; count = 0; root = 0 }
reply_by (Room count) = record { number = 38; place = 0; count = count; root = 0 }
reply_by (Read root count) = record { number = 0; place = 0; count = count; root = root }

-- The rows of "Numbers answered" for a refused message: "30 BER, 31 FORM, 32 DEPTH, 33 GLOW", "34 NUMBER, 35 REAL, 36 NAME, 37 PATH".
abbrev pub refusals : List ℕ
refusals = 30 ∷ 31 ∷ 32 ∷ 33 ∷ 34 ∷ 35 ∷ 36 ∷ 37 ∷ []

-- .. and for any message: 0 done, 1 SETUP, 38 ROOM
abbrev pub read_numbers : List ℕ
read_numbers = 0 ∷ 1 ∷ 38 ∷ refusals

-- the answer, and the lent table after it
pub record Result : Type 0 where
  pub answer : Answer
  pub said : Reply
  pub rows : Rows

abbrev pub read_result : Answer → Rows → Result
read_result a rows = record { answer = a; said = reply_by a; rows = rows }

-- "1 SETUP: .. table over 256 entries, message over 16,384 bytes"
unfoldable pub setup : ℕ → ℕ → Bool
setup bytes rows = pick (ltb 256 rows) true (ltb 16384 bytes)

-- "38 ROOM: message right, table too small"; "30 to 38 leave table and desk .. as they were"; "entries past the answer's count are untouched"
abbrev pub read_of : Rows → ℕ → Entries → Fallible ℕ Refusal → Result
read_of rows which es (Ok next) = pick (ltb (length rows) (length es)) (read_result (Room (length es)) rows) (read_result (Read which (length es)) (overlay es rows))
read_of rows which es (Err e) = read_result (No e.0 e.1) rows

unfoldable pub read_at : List ℕ → Rows → Result
read_at s rows =
    let w : Walk = walk s in
    pick (setup (length s) (length rows)) (read_result Setup rows) (read_of rows w.which w.out.entries w.out.answer)
