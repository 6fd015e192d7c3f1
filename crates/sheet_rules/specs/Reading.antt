-- Reading a route sheet (document 01, "Desk"), for every byte string: a desk, or the first refusal in document 01's order.
-- "The first refusal in this order ends it, with no desk: 12 for any bad line, the first event from 10 up, 33 unless exactly one message is finished and
-- nothing is open at the end, the tree's, 33 unless it is one qualified matrix and its connections alone, the desk's."
-- From the last to the first, since a name stands before its use.
use Rattle.ber_containers.specs.declared.No.{No}
use Rattle.std.specs.Prelude.{ℕ, List, [], ◌∷◌, Bool, true, false, length, leb, ltb, eqb, Option, Some, None, Result, Ok, Err}
use Rattle.base_choices.specs.Choices.{pick, unless, both}
use Rattle.glow_rows.specs.Entry.{Entries}
use Rattle.glow_grammar.specs.Grammar.{qualified_matrix, connection}
use Rattle.glow_trees.specs.Content.{Content, nothing, word, bytes, wrong, Item, items_of}
use Rattle.glow_walk.specs.Walk.{Walk, walk}
use Rattle.framing_session.specs.Rules.{Place, outside, stray, inside, escaped, bad_byte, too_long, is_open, State, Happening, begin, happens, after}
use Rattle.desk_crosspoints.specs.declared.Figures.{Figures}
use Rattle.desk_crosspoints.specs.Figures.{cells_of}
use Rattle.desk_crosspoints.specs.Crosspoints.{clear}
use Rattle.desk_crosspoints.specs.Desk.{Desk, desk_at, with_cells, Answer, desk_opened}
use Rattle.glow_rows.specs.Cell.{integer}
use Rattle.glow_rows.specs.Place as place
use Rattle.glow_paths.specs.Paths.{number_of, octets_of, numbers_in, member_of}
use Rattle.desk_calls.specs.Calls.{Served, handled}
use Rattle.sheet_rules.specs.Lines.{Stream, bad, stream, lines_in}

-- What reading gives.
pub data Sheet : Type 0 where
  refused : ℕ → Sheet
  read : Desk → Sheet

-- ---- "the desk's"

-- the first number that is a refusal, 0 where there is none
unfoldable pub first_refused : List ℕ → ℕ
first_refused [] = 0
first_refused (n ∷ ns) =
    let later : ℕ = first_refused ns in
    pick (eqb n 0) later n

-- "applies its connections": as the requests of a message, in order; the first refused one ends it
unfoldable pub applied : Desk → Served → Sheet
applied d z = pick (eqb (first_refused z.answers) 0) (read (with_cells d z.cells)) (refused (first_refused z.answers))

-- "opens an empty desk from the figures it carries": 45 comes before any connection
unfoldable pub begun : Desk → List Item → Answer → Sheet
begun d es a = pick (eqb a.number 0) (applied d (handled (with_cells d a.cells) es)) (refused a.number)

abbrev pub empty_desk : Figures → List ℕ → Desk
empty_desk f path = desk_at f path (clear (cells_of f))

-- "45 DESK: opening figures, mode (1) or path out of range"
unfoldable pub opens : Figures → List ℕ → ℕ → List Item → Sheet
opens f path mode es = begun (empty_desk f path) es (desk_opened (empty_desk f path) mode)

-- Limits "kept as given"; "(a missing count: 45)", since 0 is no count; no type is 1:N, 0 (001).
abbrev pub limit_in : Content → Option ℕ
limit_in nothing = None
limit_in (word kind n) = pick (eqb kind integer) (Some n) None
limit_in (bytes kind bs) = None
limit_in wrong = None

-- the matrix's members, each in its cell
abbrev pub figures_in : Item → Figures
figures_in e = record {
  kind = number_of (member_of e place.matrix_type);
  targets = number_of (member_of e place.targets);
  sources = number_of (member_of e place.sources);
  total = limit_in (member_of e place.total_limit);
  each = limit_in (member_of e place.target_limit);
}

abbrev pub mode_in : Item → ℕ
mode_in e = number_of (member_of e place.mode)

abbrev pub path_in : Item → List ℕ
path_in e = numbers_in (octets_of (member_of e place.key))

-- ---- "33 unless it is one qualified matrix and its connections alone"

unfoldable pub all_links : List Item → Bool
all_links [] = true
all_links (e ∷ es) =
    let later : Bool = all_links es in
    both (eqb e.kind connection) later

unfoldable pub of_entries : List Item → Sheet
of_entries [] = refused 33
of_entries (e ∷ es) =
    unless (both (eqb e.kind qualified_matrix) (all_links es)) (refused 33)
    (opens (figures_in e) (path_in e) (mode_in e) (e ∷ es))

-- ---- "the tree's", with a table of 256 entries: 38 ROOM where it has more

abbrev pub of_answer : List ℕ → Entries → Result ℕ No → Sheet
of_answer m es (Ok next) = pick (ltb 256 (length es)) (refused 38) (of_entries (items_of m es))
of_answer m es (Err e) = refused e.0

unfoldable pub of_message : List ℕ → Sheet
of_message m =
    let k : Walk = walk m in
    of_answer m k.out.entries k.out.answer

-- ---- "33 unless exactly one message is finished and nothing is open at the end"; keep-alives and pieces are passed over

-- the messages finished, in order
unfoldable pub finished : List Happening → List (List ℕ)
finished [] = []
finished (h ∷ hs) =
    let later : List (List ℕ) = finished hs in
    pick (eqb h.said.number 3) (h.said.message ∷ later) later

abbrev pub in_frame : Place → Bool
in_frame outside = false
in_frame stray = false
in_frame (inside xs) = true
in_frame (escaped xs) = true
in_frame (bad_byte xs) = true
in_frame (too_long xs) = true

-- neither a frame nor a message
unfoldable pub something_open : State → Bool
something_open s = pick (in_frame s.place) true (is_open s.message)

-- ---- "the first event from 10 up"

-- its number, 0 where there is none
unfoldable pub first_fault : List Happening → ℕ
first_fault [] = 0
first_fault (h ∷ hs) =
    let later : ℕ = first_fault hs in
    pick (leb 10 h.said.number) h.said.number later

-- What the lines hold: a refusal, or the one message that is finished.
pub data Held : Type 0 where
  refusal : ℕ → Held
  message : List ℕ → Held

abbrev pub one_of : List (List ℕ) → Held
one_of [] = refusal 33
one_of (m ∷ []) = message m
one_of (m ∷ later ∷ ms) = refusal 33

unfoldable pub of_events : List Happening → State → Held
of_events hs end =
    unless (eqb (first_fault hs) 0) (refusal (first_fault hs))
    (pick (something_open end) (refusal 33) (one_of (finished hs)))

-- ---- "12 for any bad line"; the lines are one stream

abbrev pub held_in : Stream → Held
held_in bad = refusal 12
held_in (stream bs) = of_events (happens begin 0 bs) (after begin bs)

abbrev pub of_held : Held → Sheet
of_held (refusal n) = refused n
of_held (message m) = of_message m

-- Reading.
unfoldable pub read_sheet : List ℕ → Sheet
read_sheet text = of_held (held_in (lines_in text))
