-- With which numbers the calls answer, whatever is handed in. `calls`, `write_calls` and `accept_calls` are the contracts of glow_read, glow_write and
-- glow_accepts.
use Prim.Native.Nat.{ℕ}
use mathlib.Core.Path.{refl}
use mathlib.Core.List.{List}
use lib.Dec.{eqb}
use lib.ListN.{length}
use types.Run.{OneOf, hit}
use Rattle.ber_integers.specs.Numbers.{put_numbers}
use Rattle.ber_integers.proofs.Numbers.{widen}
use Rattle.base_choices.proofs.Laws.{pick-by}
use Rattle.glow_rows.specs.Entry.{Rows}
use Rattle.glow_trees.specs.Rows.{items_in}
use Rattle.glow_member_sizes.specs.Spelling.{least_real}
use Rattle.glow_sizes.specs.Accepted.{fits}
use Rattle.glow_writer.proofs.Numbers.{write-numbers}
use Rattle.glow_reader.specs.Message.{read_numbers}
use Rattle.glow_reader.proofs.Answers.{read-numbers}
use Rattle.glow_c.specs.Calls.{Call, calls, Writing, write_calls, accept_calls}
use Rattle.glow_c.specs.Numbers.{write_numbers, accept_numbers}

-- 0, 1, 30 to 37 or 38
pub glow-read-numbers : (s : List ℕ) (rows : Rows) (answer : List ℕ) → OneOf read_numbers (calls s rows answer).number
unfolding calls
glow-read-numbers s rows answer =
    pick-by (λ (x : Call). OneOf read_numbers x.number) (eqb (length answer) 3) (λ e. read-numbers s rows) (λ e. hit read_numbers 1 tt)

-- 0, 1 or 46
pub glow-write-numbers : (rows : Rows) (n root : ℕ) (s out answer : List ℕ) → OneOf write_numbers (write_calls rows n root s out answer).number
unfolding write_calls
glow-write-numbers rows n root s out answer =
    pick-by (λ (x : Writing). OneOf write_numbers x.number) (eqb (length answer) 1)
    (λ e. widen put_numbers write_numbers _ refl (write-numbers root (length rows) n (items_in s rows n) out))
    (λ e. hit write_numbers 1 tt)

-- 0 or 1
pub glow-accept-numbers : (rows : Rows) (n root : ℕ) (s : List ℕ) → OneOf accept_numbers (accept_calls rows n root s)
unfolding accept_calls
glow-accept-numbers rows n root s =
    pick-by (OneOf accept_numbers) (fits least_real root (length rows) n (items_in s rows n)) (λ e. hit accept_numbers 1 tt) (λ e. hit accept_numbers 0 tt)
