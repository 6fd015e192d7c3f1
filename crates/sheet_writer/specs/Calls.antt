-- The route sheet writer (document 01, "Desk" and "Numbers answered").
use Rattle.std.specs.Prelude.{ℕ, List}
use Rattle.base_choices.specs.Choices.{pick}
use Rattle.framing_packets.specs.Written.{Outcome, into}
use Rattle.desk_crosspoints.specs.Desk.{Desk, desk_legal}
use Rattle.sheet_rules.specs.Sheet.{sheet_of}
use Rattle.sheet_writer.specs.declared.Answer.{Answer}
use Rattle.sheet_writer.specs.declared.Answer.TheVariants.{Setup, Out, Done}

-- what each case of the answer says: document 01's number and how many bytes, with the output after it
abbrev pub outcome_of : Answer → List ℕ → Outcome
outcome_of Setup o = record { number = 1; count = 0; output = o }
outcome_of Out o = record { number = 46; count = 0; output = o }
outcome_of (Done n) o = record { number = 0; count = n; output = o }

-- "1 SETUP, first of all: .. desk not legal", "1 leaves everything as it was"; else the sheet, or "46 OUT: writer: output too short", which leaves the output
-- as it was. Bytes past the sheet stay.
unfoldable pub writes_sheet : Desk → List ℕ → Outcome
writes_sheet d o = pick (desk_legal d) (into (sheet_of d) o) (outcome_of Setup o)
