-- What is proved, on one page: each final theorem, stated in full over the definitions of specs/ and proved by naming the original. These definitions are what
-- the functions' contracts equate their answers with: `feeds` of framing::feed, `read_at` of glow_reader::read, `writes` of glow_writer::write, `called` of
-- desk_calls::call, `calls` and `turns` of the C functions, and so on. Octets, words and cells are numbers; `Below 256` says that they are octets.
use Rattle.std.specs.Prelude.{Some, None}
use Prim.Native.Nat.{ℕ, ◌+◌, ◌*◌, ◌≤◌, ◌<◌}
use mathlib.Core.Path.{◌≡◌}
use mathlib.Core.List.{List, [], ◌∷◌}
use mathlib.Core.Bool.{Bool, true, false}
use mathlib.Core.Logic.{◌⊎◌}
use types.Run.{OneOf}
use lib.Dec.{T}
use lib.IntN.{ℤ}
use lib.Ieee as Ieee
use lib.Ieee.{Float, binary64}
use lib.ListN.{length, take, get_or}
use Rattle.ber_integers.specs.Digits.{Below, digits, put, outcome, unchanged}
use Rattle.ber_integers.specs.Integer.{integer, unsigned_at, signed_at, integer_at, shortest}
use Rattle.ber_integers.specs.Readings.{number_of, integer_says, natural_says}
use Rattle.ber_integers.specs.Numbers.{octet_numbers, put_numbers}
use Rattle.ber_integers.proofs.RoundTrip as integers
use Rattle.ber_integers.proofs.Numbers as integer-calls
use Rattle.ber_tags.specs.Tag.{head_at, head_says}
use Rattle.ber_tags.specs.Write.{septets, put_tag, put_length}
use Rattle.ber_tags.proofs.Numbers as tag-calls
use Rattle.ber_reals.specs.Real.{real, real_at, real_says, real_numbers}
use Rattle.ber_reals.specs.Write.{write_at}
use Rattle.ber_reals.specs.Means.{Means}
use Rattle.ber_reals.proofs.Exactly as reals
use Rattle.ber_reals.proofs.Numbers as real-calls
use Rattle.ber_identifiers.specs.Identifier.{arc_at, oid_at, put_oid, arc_says, oid_says, identifier_numbers}
use Rattle.ber_identifiers.proofs.Numbers as identifier-calls
use Rattle.ber_values.specs.declared.Value.{Value}
use Rattle.ber_values.specs.declared.Answer.TheVariants.{Found}
use Rattle.ber_values.specs.Value.{bool_at, content_at, value_at, flag_says, answer_says, value_numbers}
use Rattle.ber_values.specs.Write.{put_part, put_value}
use Rattle.ber_values.specs.Compared.{Held, moved, octets_of}
use Rattle.ber_values.proofs.RoundTrip as values
use Rattle.ber_values.proofs.Numbers as value-calls
use Rattle.ber_containers.specs.declared.Open.{Open}
use Rattle.ber_containers.specs.declared.Tag.{Tag}
use Rattle.ber_containers.specs.Ends.{standing_at, enter_at, first_at, last_at}
use Rattle.ber_containers.specs.Passing.{passed_at}
use Rattle.ber_containers.specs.Numbers.{stand_numbers, enter_numbers, first_numbers, last_numbers, StandsBy, FoundBy, OntoBy}
use Rattle.ber_containers.proofs.Numbers as container-calls
use Rattle.framing_session.specs.declared.Session.{Session}
use Rattle.framing_content.specs.Numbers.{store_length, message_limit, feed_numbers}
use Rattle.framing_session.specs.Rules as framing
use Rattle.framing_session.specs.Rules.{begin, happens}
use Rattle.framing_session.specs.declared.Event.{Event}
use Rattle.framing_session.specs.Session.{state_of, session_of, said_by, feeds}
use Rattle.framing.specs.Offers as offers
use Rattle.framing.proofs.Chunks as framing-chunks
use Rattle.framing.proofs.Calls as framing-calls
use Rattle.framing_read_back.proofs.Calls as framing-writer
use Rattle.framing_read_back.specs.Calls.{WrittenRead, MessageCall}
use Rattle.framing_packets.specs.Written.{in_packets, frame, request_body, response_body, into, frame_into, message_into, write_numbers}
use Rattle.framing_packets.specs.Read.{Bytes, message_events}
use Rattle.glow_rows.specs.Entry.{Rows, blank}
use Rattle.glow_walk.specs.Walk.{walk}
use Rattle.glow_reader.specs.declared.Answer.TheVariants.{Read}
use Rattle.glow_reader.specs.Message.{read_numbers, read_at}
use Rattle.glow_reader.proofs.Answers as glow
use Rattle.glow_trees.specs.Content.{Item}
use Rattle.glow_trees.specs.Rows.{items_in}
use Rattle.glow_trees.specs.Trees.{Trees}
use Rattle.glow_trees.specs.Written.{written_real}
use Rattle.glow_member_sizes.specs.Spelling.{least_real}
use Rattle.glow_sizes.specs.Accepted.{octets_of as message_of, accepted, fits}
use Rattle.glow_writer.specs.Writes.{writes}
use Rattle.glow_writer.proofs.Numbers as glow-writer
use Rattle.trees_round_trip.specs.Claims.{written, ReadBack, Message}
use Rattle.trees_round_trip.proofs.Theorems as trees
use Rattle.entries_from_rows.specs.Told.{Told}
use Rattle.entries_from_rows.proofs.Theorems as records
use Rattle.encodings.specs.Encodes.{Encodes}
use Rattle.encodings.specs.Reading.{AnswersExactly}
use Rattle.encodings.proofs.ReadExactly as encodings
use Rattle.encodings.proofs.Exactly as encodings-exactly
use Rattle.desk_crosspoints.specs.Crosspoints.{Cells, legal, count}
use Rattle.desk_crosspoints.specs.Desk.{Desk, with_cells, desk_legal, desk_opened}
use Rattle.desk_crosspoints.proofs.Opened as opened
use Rattle.desk_requests.specs.Request.{Request, named, requested}
use Rattle.desk_requests.proofs.Claims as requests
use Rattle.sheet_rules.specs.Sheet.{sheet_of}
use Rattle.sheet_rules.specs.Reading.{read_sheet, read}
use Rattle.desk_calls.specs.Calls.{called}
use Rattle.desk_calls.specs.Numbers.{open_numbers, request_numbers, call_numbers, answer_numbers, AllOneOf}
use Rattle.desk_calls.proofs.Numbers as desk-numbers
use Rattle.sheet_rules.specs.KeepAlives.{sheet_frames, WithAlives}
use Rattle.sheet_rules.specs.InLines.{InLines}
use Rattle.sheet_rules.proofs.Theorems as sheets
use Rattle.sheet_rules.proofs.Anywhere as sheets-anywhere
use Rattle.sheet_writer.specs.declared.Answer.TheVariants.{Done}
use Rattle.sheet_writer.specs.Calls.{writes_sheet, outcome_of as wrote}
use Rattle.sheet_writer.specs.Numbers.{sheet_put_numbers}
use Rattle.sheet_writer.proofs.Theorems as sheet-writer
use Rattle.sheet_writer.proofs.Numbers as sheet-writer-calls
use Rattle.sheet_reader.specs.declared.Sheet.{Sheet}
use Rattle.sheet_reader.specs.Calls.{sheet_read, sheet_numbers, outcome_of as read_told}
use Rattle.sheet_reader.proofs.Theorems as sheet-reader
use Rattle.sheet_reader.proofs.Numbered as sheet-reader-calls
use Rattle.turn_rules.specs.Rules.{keep, tells, after}
use Rattle.turn_rules.specs.Turns as turns
use Rattle.turns.specs.Samples.{All, p1-to-p12}
use Rattle.turns.specs.Calls.{CallByCall}
use Rattle.turns.proofs.Calls.{Made}
use Rattle.turns.proofs.Numbers as turns-numbers
use Rattle.turns.proofs.Functions as turns-calls
use Rattle.turns.proofs.Some as turns-some
use Rattle.turns.proofs.Samples as samples
use Rattle.supervision.specs.Promise.{tick_at, Often, Calls, Promised}
use Rattle.supervision.specs.declared.Link.{Link}
use Rattle.supervision.specs.declared.Answer.{Answer}
use Rattle.supervision.specs.Rules.{Showing}
use Rattle.supervision.specs.Supervisor.{begun}
use Rattle.supervision.proofs.Promise as supervision
use Rattle.framing_c.specs.Calls.{starts, calls, puts}
use Rattle.framing_c.specs.Offers as framing-c
use Rattle.framing_c.proofs.Claim as framing-c-claim
use Rattle.framing_c.proofs.Calls as framing-c-calls
use Rattle.supervision_c.specs.Calls.{starts as link-starts, calls as shows}
use Rattle.supervision_c.specs.Promise as supervision-c
use Rattle.supervision_c.specs.Promise.{Seen, showings}
use Rattle.supervision_c.proofs.Promise as supervision-c-promise
use Rattle.framing_words.specs.Words.{words_of, session_at}
use Rattle.desk_words.specs.Words.{desk_in, is_figures}
use Rattle.ember.specs.Rounds.{Round, Rounds, Claimed}
use Rattle.ember.proofs.Claim as ember
use Rattle.ember.proofs.Some as ember-some
use Rattle.ember.specs.Calls as ember-c
use Rattle.ember.proofs.Numbers as ember-calls
use Rattle.ember.proofs.TurnWords as ember-words
use Rattle.glow_c.specs.Calls as glow-c
use Rattle.glow_c.specs.Numbers as glow-c-numbers
use Rattle.glow_c.proofs.Numbers as glow-c-calls

-- ---- Framing

-- Free of chunks. For every list of calls of `feed`, from a fresh session and any store of the right length: the events in order, with all they say, and what
-- session and store hold are what the rules give for the bytes consumed so far; each call consumed up to and including its event's byte, or all it was offered.
pub framing-chunk-free : {s : Session} {t t' bytes rest : List ℕ} {calls : List offers.Turn} → length t ≡ store_length
    → offers.Turns (session_of begin) t bytes calls s t' rest → offers.AsRules begin 0 calls s t' bytes rest
framing-chunk-free = framing-chunks.chunk-free

-- Such calls exist: for every stream and every way to cut it.
pub framing-every-cut : (bytes : List ℕ) (chunks : List (List ℕ)) → offers.joined chunks ≡ bytes → (t : List ℕ) → length t ≡ store_length
    → (k : offers.Consumed (session_of begin) t chunks)
    × ((offers.told k.turns 0 ≡ happens begin 0 bytes) × (state_of k.session k.store ≡ framing.after begin bytes))
framing-every-cut = framing-calls.every-cut

-- What is written is read back: a message that the output has room for is written by some call, and however its bytes are cut, calls of the session tell that
-- message and nothing else.
pub framing-read-back : (o t : List ℕ) → length t ≡ store_length → (m : List ℕ) → Bytes m → length m ≤ message_limit → length (in_packets m) ≤ length o
    → WrittenRead (MessageCall m o) t (message_events false m 0) begin
framing-read-back = framing-writer.message-written-read

-- ---- Values

-- Content octets are read as the double x exactly if x is what they mean in the account of IEEE 754; at most one; and refused where there is none.
pub reals-exactly : (bs : List ℕ) → Below 256 bs → (x : Float) → (real bs ≡ Some x → Means bs x) × (Means bs x → real bs ≡ Some x)
reals-exactly = reals.exactly

pub reals-once : (bs : List ℕ) → Below 256 bs → (x y : Float) → Means bs x → Means bs y → x ≡ y
reals-once = reals.unique

pub reals-refused : (bs : List ℕ) → Below 256 bs → ((x : Float) → Means bs x → ⊥) → real bs ≡ None
reals-refused = reals.otherwise

-- Octets that are read as an integer are its one written form.
pub integers-one-form : (bs : List ℕ) (z : ℤ) → Below 256 bs → integer bs ≡ Some z → shortest z ≡ bs
integers-one-form = integers.read-written

-- Every value that is written is read back as the same value with nothing left, texts and octets by content.
pub values-read-back : (source out : List ℕ) (at next : ℕ) (out' : List ℕ) (bound : ℕ) → next ≤ bound → (v : Value) → Held v
    → put_value source out at v ≡ outcome (Some next) out'
    → (value_at out' at bound ≡ Found (moved next v) next) × (octets_of out' (moved next v) ≡ octets_of source v)
values-read-back = values.written-read-value

-- ---- The tree, read

-- `read` answers every message by what it encodes, and nothing else: for at most 16,384 octets and a table of at most 256 rows it answers 0 with a tree exactly
-- if the message encodes it and it fits, 38 exactly if it encodes one that does not fit, and 30 to 37 exactly if it encodes none. `Encodes`
-- (crates/encodings/specs)
-- is the grammar as a relation, with no reader in it.
pub tree-read-exactly : (s : List ℕ) → Below 256 s → length s ≤ 16384 → (table : Rows) → length table ≤ 256
    → AnswersExactly s table (read_at s table).answer (read_at s table).rows
tree-read-exactly = encodings.read-exactly

-- No message encodes two trees.
pub tree-one : (s : List ℕ) → Below 256 s → length s < 18446744073709551615 → (root root' : ℕ) (t t' : Trees) → Encodes s root t → Encodes s root' t'
    → (root ≡ root') × (t ≡ t')
tree-one = encodings-exactly.one-tree

-- Every call answers with one of document 01's numbers.
pub tree-numbers : (s : List ℕ) (table : Rows) → OneOf read_numbers (read_at s table).said.number
tree-numbers = glow.read-numbers

-- Each row that the reader leaves is read, by the struct of its kind, as the entry that the rules name.
pub tree-rows : (s : List ℕ) → Below 256 s → (table : Rows) (root count : ℕ) → (read_at s table).answer ≡ Read root count → (i : ℕ) → i < count
    → Told (get_or (read_at s table).rows i []) (get_or (walk s).out.entries i (blank 0 0))
tree-rows s octets table root count h = records.rows_told s octets table h

-- ---- The tree, written

-- What is written is read back, into any table that has room, as the same tree.
pub tree-read-back : (s : List ℕ) (rows : Rows) (count root : ℕ) (out : List ℕ) (n : ℕ) (out' : List ℕ)
    → written s rows count root out ≡ outcome (Some n) out' → ReadBack (take n out') root count (items_in s rows count)
tree-read-back = trees.written_read

-- What is read can be written, unless that message passes 16,384 bytes or the output, and is then read back as the same tree.
pub tree-written-again : (s : List ℕ) → Below 256 s → (table : Rows) (root count : ℕ) → (read_at s table).answer ≡ Read root count → (out : List ℕ)
    → ((written s (read_at s table).rows count root out ≡ unchanged out)
    × ((16384 < length (message_of written_real root (items_in s (read_at s table).rows count)))
    ⊎ (length out < length (message_of written_real root (items_in s (read_at s table).rows count)))))
    ⊎ ((n : ℕ)
    × ((out' : List ℕ)
    × ((written s (read_at s table).rows count root out ≡ outcome (Some n) out')
    × ReadBack (take n out') root count (items_in s (read_at s table).rows count))))
tree-written-again = trees.read-written

-- The test of entries is exact: `is_tree` says yes exactly if the rows are there and some message of at most 16,384 bytes is read as exactly their entries.
pub tree-test-exactly : (s : List ℕ) → Below 256 s → (rows : Rows) (count root : ℕ)
    → (fits least_real root (length rows) count (items_in s rows count) ≡ true → (count ≤ length rows) × Message root (items_in s rows count))
    × ((count ≤ length rows) × Message root (items_in s rows count) → fits least_real root (length rows) count (items_in s rows count) ≡ true)
tree-test-exactly = trees.is-tree-exactly

-- ---- The desk

-- A desk that was opened is legal, and stays legal whatever is asked of it.
pub desk-opened-legal : (d : Desk) (mode : ℕ) → (desk_opened d mode).number ≡ 0 → desk_legal (with_cells d (desk_opened d mode).cells) ≡ true
desk-opened-legal = opened.open-legal

pub desk-stays-legal : (d : Desk) (r : Request) → legal d.figures d.crosspoints ≡ true → legal d.figures (requested d r).cells ≡ true
desk-stays-legal = requests.request-legal

-- A refused request leaves every crosspoint as it was.
pub desk-refused-same : (d : Desk) (r : Request) → ((requested d r).number ≡ 0 → ⊥) → (requested d r).cells ≡ d.crosspoints
desk-refused-same = requests.refused-same

-- On a 1:1 desk, absolute or connect with one source takes it from every other target.
pub desk-one-to-one : (d : Desk) (r : Request) → d.figures.kind ≡ 1 → r.operation < 2 → count (named d.figures.sources r.sources) ≡ 1
    → (requested d r).number ≡ 0 → (t : ℕ) → t < d.figures.targets → (t ≡ r.target → ⊥)
    → get_or (requested d r).cells (t * d.figures.sources + get_or r.sources 0 0) 0 ≡ 0
desk-one-to-one = requests.one-to-one-gone

-- ---- Route sheets

-- Every legal desk's sheet is read back as the same desk, with any keep-alives before, between and after its frames, on lines of their own or among other
-- frames, in digits of either case and with the lines cut anywhere.
pub sheet-read-back : (d : Desk) → desk_legal d ≡ true → read_sheet (sheet_of d) ≡ read d
sheet-read-back = sheets.sheet-read

pub sheet-keep-alives : (d : Desk) → desk_legal d ≡ true → (frames : List (List ℕ)) (text : List ℕ) → WithAlives (sheet_frames d) frames
    → InLines frames text → read_sheet text ≡ read d
sheet-keep-alives = sheets-anywhere.sheet-anywhere

-- So of what calls answer: a sheet that was written is read as its desk, and a call that reads a legal desk's sheet answers that desk, with its path in the
-- first words of the lent one and its crosspoints in the first cells.
pub sheet-written-read : (d : Desk) (out : List ℕ) (n : ℕ) (out' : List ℕ) → writes_sheet d out ≡ wrote (Done n) out' → read_sheet (take n out') ≡ read d
sheet-written-read = sheet-writer.written_read

pub sheet-call-read-back : (text store path : List ℕ) (cells : Cells) → sheet-reader.Ready store path cells → (r : Sheet) (store' path' : List ℕ)
    (cells' : Cells) → sheet_read text store path cells ≡ read_told r store' path' cells' → (d : Desk) → desk_legal d ≡ true → text ≡ sheet_of d
    → sheet-reader.ReadAs d r path path' cells cells'
sheet-call-read-back = sheet-reader.read_back

-- ---- Turns: demand 3

-- THE CLAIM. For every list of turns, each call by what its contract has it ensure, from a fresh session, any store of the right length, a table of any one
-- length and a desk in any legal state: the events in order, with all they say, each message, the tree reader's answer and entries, the answer to
-- each connection,
-- and what is kept of frame, message and desk are what the rules give for the bytes consumed so far. The rules know no chunk, no session, no store, and of the
-- table its length.
pub turns-claim : {rows : ℕ} {s : Session} {t t' : List ℕ} {d d' : Desk} {bytes rest : List ℕ} {ts : List turns.Turn} → length t ≡ store_length
    → desk_legal d ≡ true → Below 256 bytes → CallByCall rows (session_of begin) t d bytes ts s t' d' rest
    → turns.AsRules rows begin d 0 ts s t' d' bytes rest
turns-claim = turns-calls.calls-claim

-- Such turns exist: for every stream, every way to cut it, every legal desk and whatever tables of one length are lent.
pub turns-every-cut : (rows : ℕ) (tables : ℕ → Rows) → ((i : ℕ) → length (tables i) ≡ rows) → (bytes : List ℕ) → Below 256 bytes → (chunks : List (List ℕ))
    → offers.joined chunks ≡ bytes → (t : List ℕ) → length t ≡ store_length → (d : Desk) → desk_legal d ≡ true
    → (k : turns.Consumed rows (session_of begin) t d chunks)
    × ((turns.told k.turns 0 ≡ tells rows (keep begin d) 0 bytes)
    × (keep (state_of k.session k.store) k.desk ≡ after rows (keep begin d) bytes))
turns-every-cut = turns-some.every-cut

-- The same of `turns::turn`, the three calls in one: over every list of its calls; and there are such calls.
pub turns-function-claim : {rows : ℕ} {s : Session} {t t' : List ℕ} {d d' : Desk} {bytes rest : List ℕ} {ts : List turns.Turn} → length t ≡ store_length
    → desk_legal d ≡ true → Below 256 bytes → Made rows (session_of begin) t d bytes ts s t' d' rest → turns.AsRules rows begin d 0 ts s t' d' bytes rest
turns-function-claim = turns-calls.function-claim

pub turns-function-every-cut : (rows : ℕ) (tables : ℕ → Rows) (sized : (i : ℕ) → length (tables i) ≡ rows) (bytes : List ℕ) → Below 256 bytes
    → (chunks : List (List ℕ)) → offers.joined chunks ≡ bytes → (t : List ℕ) → length t ≡ store_length → (d : Desk) → desk_legal d ≡ true
    → turns-calls.Offered rows tables sized t d bytes chunks
turns-function-every-cut = turns-calls.function-every-cut

-- ---- Supervision: request 01

-- For every list of showings from the start s to the present z, over any number of the tick's wraps: if each state comes back as left, time does not
-- go back and
-- no more than 1,000 ms pass without a showing, the answers are exactly the rules'; dead no later than 12,000 ms after the last event; never with an event in
-- every 4,000 ms.
pub supervision-promise : {o s z : ℕ} {l : Link} {xs : List Showing} {rs : List Answer} → Calls o (begun (tick_at o s)) xs rs l → Often s xs z
    → Promised s z xs rs
supervision-promise = supervision.promise

-- Such calls exist, whatever the tick at the start, for all showings that are often enough.
pub supervision-every-run : (o s : ℕ) {z : ℕ} (xs : List Showing) → Often s xs z
    → (l : Link) × (supervision.Started (tick_at o s) l × ((k : supervision.Run o l xs) × Promised s z xs k.answered))
supervision-every-run = supervision.every-run

-- ---- The C functions

-- framing_feed, over every list of its calls from the words that framing_start makes, refused ones among them: it tells the rules' events of the
-- bytes consumed,
-- each once and in order, however the stream is cut.
pub c-framing-claim : (ws₀ : List ℕ) {ws t bytes ws'' t'' rest : List ℕ} {xs : List framing-c.Turn} → starts ws₀ ≡ record { number = 0; session = ws }
    → length t ≡ store_length → framing-c.Turns ws t bytes xs ws'' t'' rest → framing-c.AsRules begin 0 xs ws'' t'' bytes rest
c-framing-claim = framing-c-claim.claim

pub c-framing-every-cut : (a : List ℕ) → length a ≡ 3 → (ws₀ : List ℕ) → length ws₀ ≡ 4 → (chunks : List (List ℕ)) (t : List ℕ) → length t ≡ store_length
    → (ws : List ℕ) × (framing-c-calls.Start ws₀ 0 ws
    × ((xs : List framing-c.Turn) × ((ws'' : List ℕ) × ((t'' : List ℕ)
    × (framing-c.Turns ws t (offers.joined chunks) xs ws'' t'' []
    × (framing-c.Serves chunks xs
    × ((framing-c.told xs 0 ≡ happens begin 0 (offers.joined chunks)) × (state_of (session_at ws'') t'' ≡ framing.after begin (offers.joined chunks)))))))))
c-framing-every-cut = framing-c-calls.every-cut

-- supervision_show keeps request 01's promise, over every list of its calls.
pub c-supervision-promise : (ws₀ : List ℕ) {o s z : ℕ} {ws ws'' : List ℕ} {xs : List Seen} {ns : List ℕ}
    → link-starts ws₀ (tick_at o s) ≡ record { number = 0; link = ws } → supervision-c.Shows o ws xs ns ws'' → Often s (showings xs) z
    → supervision-c.Promised s z xs ns
c-supervision-promise = supervision-c-promise.promise

pub c-supervision-every-run : (ws₀ : List ℕ) → length ws₀ ≡ 2 → (o s : ℕ) {z : ℕ} (xs : List Seen) → Often s (showings xs) z
    → (ws : List ℕ)
    × (supervision-c-promise.Started ws₀ (tick_at o s) 0 ws × ((k : supervision-c-promise.Run o ws xs) × supervision-c.Promised s z xs k.numbers))
c-supervision-every-run = supervision-c-promise.every-run

-- ember_turn: demand 3 over every list of its calls from a fresh session's words, any store of the right length and a legal desk, calls answered with 1 among
-- them, which tell nothing and change nothing: what the calls answered and left is what turns told, and the claim holds of these.
pub c-ember-claim : {rows : ℕ} {fs path t : List ℕ} {cells : Cells} {bytes : List ℕ} {xs : List Round} {ws' t' : List ℕ} {cells' : Cells} {rest : List ℕ}
    → length t ≡ store_length → desk_legal (desk_in fs path cells) ≡ true → Below 256 bytes
    → Rounds rows fs path (words_of (session_of begin)) t cells bytes xs ws' t' cells' rest → Claimed rows fs path cells bytes xs ws' t' cells' rest
c-ember-claim = ember.ember-claim

pub c-ember-every-cut : (rows : ℕ) (most : rows ≤ 256) (tables : ℕ → Rows) (sized : (i : ℕ) → length (tables i) ≡ rows) (lents : ℕ → List ℕ)
    (words : ℕ → List ℕ) (nine : (i : ℕ) → length (words i) ≡ 9) (fs path : List ℕ) (figures : is_figures fs ≡ true) (bytes : List ℕ) → Below 256 bytes
    → (chunks : List (List ℕ)) → offers.joined chunks ≡ bytes → (t : List ℕ) → length t ≡ store_length → (cells : Cells)
    → desk_legal (desk_in fs path cells) ≡ true
    → ember-some.Offered rows most tables sized lents words nine fs path figures t cells bytes chunks
c-ember-every-cut = ember-some.ember-every-cut

-- ---- Numbers: with which of document 01's rows each call answers, whatever is handed in

pub numbers-feed : (s : Session) (t c : List ℕ) → OneOf feed_numbers (feeds s t c).said.number
numbers-feed = framing-calls.feed-numbers

pub numbers-write-frame : (xs out : List ℕ) → OneOf write_numbers (frame_into xs out).number
numbers-write-frame = framing-writer.frame-numbers

pub numbers-write-message : (m out : List ℕ) → OneOf write_numbers (message_into m out).number
numbers-write-message = framing-writer.message-numbers

pub numbers-write-request : (out : List ℕ) → OneOf write_numbers (into (frame request_body) out).number
numbers-write-request = framing-writer.request-numbers

pub numbers-write-response : (out : List ℕ) → OneOf write_numbers (into (frame response_body) out).number
numbers-write-response = framing-writer.response-numbers

-- values: octets are refused at their tag, which stands at `tag`
pub numbers-read-unsigned : (s : List ℕ) (at n tag : ℕ) → OneOf octet_numbers (number_of (natural_says (unsigned_at s at n) tag))
numbers-read-unsigned = integer-calls.read-unsigned-numbers

pub numbers-read-signed : (s : List ℕ) (at n tag : ℕ) → OneOf octet_numbers (number_of (integer_says (signed_at s at n) tag))
numbers-read-signed = integer-calls.read-signed-numbers

pub numbers-read-int : (s : List ℕ) (at n tag : ℕ) → OneOf octet_numbers (number_of (integer_says (integer_at s at n) tag))
numbers-read-int = integer-calls.read-int-numbers

pub numbers-write-octets : (out : List ℕ) (at n v : ℕ) → OneOf put_numbers (put out at (digits 256 n v)).number
numbers-write-octets = integer-calls.write-octets-numbers

pub numbers-write-int : (out : List ℕ) (at : ℕ) (z : ℤ) → OneOf put_numbers (put out at (shortest z)).number
numbers-write-int = integer-calls.write-int-numbers

pub numbers-write-octet : (out : List ℕ) (at b : ℕ) → OneOf put_numbers (put out at (b ∷ [])).number
numbers-write-octet = integer-calls.write-octet-numbers

pub numbers-read-tag : (s : List ℕ) (at bound : ℕ) → OneOf octet_numbers (number_of (head_says (head_at s at bound)))
numbers-read-tag = tag-calls.read-tag-numbers

pub numbers-write-septets : (out : List ℕ) (at v : ℕ) → OneOf put_numbers (put out at (septets v)).number
numbers-write-septets = tag-calls.write-septets-numbers

pub numbers-write-tag : (out : List ℕ) (at class : ℕ) (constructed : Bool) (number : ℕ) → OneOf put_numbers (put_tag out at class constructed number).number
numbers-write-tag = tag-calls.write-tag-numbers

pub numbers-write-length : (out : List ℕ) (at n : ℕ) → OneOf put_numbers (put_length out at n).number
numbers-write-length = tag-calls.write-length-numbers

pub numbers-read-real : (s : List ℕ) (at n tag : ℕ) → OneOf real_numbers (number_of (real_says (real_at s at n) tag))
numbers-read-real = real-calls.read-real-numbers

pub numbers-write-real : (out : List ℕ) (at : ℕ) (x : Float) → OneOf put_numbers (write_at out at x).number
numbers-write-real = real-calls.write-real-numbers

pub numbers-write-bits : (out : List ℕ) (at word : ℕ) → OneOf put_numbers (write_at out at (Ieee.of_bits binary64 word)).number
numbers-write-bits = real-calls.write-bits-numbers

-- an identifier's number that is out of range has the number `range`
pub numbers-read-number : (range tag : ℕ) (s : List ℕ) (p end : ℕ) → OneOf (identifier_numbers range) (number_of (arc_says (arc_at s p end) range tag))
numbers-read-number = identifier-calls.read-number-numbers

pub numbers-read-oid : (range tag : ℕ) (s : List ℕ) (at n : ℕ) → OneOf (identifier_numbers range) (number_of (oid_says (oid_at s at n) range tag))
numbers-read-oid = identifier-calls.read-oid-numbers

pub numbers-write-oid : (out : List ℕ) (at : ℕ) (ns : List ℕ) → OneOf put_numbers (put_oid out at ns).number
numbers-write-oid = identifier-calls.write-oid-numbers

pub numbers-read-bool : (s : List ℕ) (at n tag : ℕ) → OneOf octet_numbers (number_of (flag_says (bool_at s at n) tag))
numbers-read-bool = value-calls.read-bool-numbers

pub numbers-read-content : (s : List ℕ) (at kind start len tag : ℕ) → OneOf value_numbers (number_of (answer_says (content_at s at kind start len) tag))
numbers-read-content = value-calls.read-content-numbers

pub numbers-read-value : (s : List ℕ) (at bound tag : ℕ) → OneOf value_numbers (number_of (answer_says (value_at s at bound) tag))
numbers-read-value = value-calls.read-value-numbers

pub numbers-write-value : (source out : List ℕ) (at : ℕ) (v : Value) → OneOf put_numbers (put_value source out at v).number
numbers-write-value = value-calls.write-value-numbers

pub numbers-write-part : (source out : List ℕ) (at start len : ℕ) → OneOf put_numbers (put_part source start len out at).number
numbers-write-part = value-calls.write-part-numbers

-- containers: the answer carries its refusal's number
pub numbers-standing : (s : List ℕ) (p : ℕ) (o : Open) → StandsBy stand_numbers (standing_at s p o)
numbers-standing = container-calls.standing-numbers

pub numbers-entering : (s : List ℕ) (p k : ℕ) (o : Open) → StandsBy enter_numbers (enter_at s p o k)
numbers-entering = container-calls.entering-numbers

pub numbers-first : (s : List ℕ) (p k : ℕ) (o : Open) → FoundBy first_numbers (first_at s p o k)
numbers-first = container-calls.first-numbers

pub numbers-last : (s : List ℕ) (p k : ℕ) (o : Open) → OntoBy last_numbers (last_at s p o k)
numbers-last = container-calls.last-numbers

pub numbers-passed : (s : List ℕ) (t : Tag) (k : ℕ) → OntoBy enter_numbers (passed_at s t k)
numbers-passed = container-calls.passed-numbers

-- the tree (reading: `tree-numbers`)
pub numbers-tree-write : (root rows n : ℕ) (es : List Item) (out : List ℕ) → OneOf put_numbers (writes root rows n es out).number
numbers-tree-write = glow-writer.write-numbers

-- the desk, and each of its 256 answers to a message
pub numbers-desk-open : (d : Desk) (mode : ℕ) → OneOf open_numbers (desk_opened d mode).number
numbers-desk-open = desk-numbers.open-numbers

pub numbers-desk-request : (d : Desk) (r : Request) → OneOf request_numbers (requested d r).number
numbers-desk-request = desk-numbers.request-numbers

pub numbers-desk-call : (d : Desk) (root : ℕ) (rows : Rows) (n : ℕ) (s : List ℕ) → OneOf call_numbers (called d root rows n s).number
numbers-desk-call = desk-numbers.call-numbers

pub numbers-desk-answers : (d : Desk) (root : ℕ) (rows : Rows) (n : ℕ) (s : List ℕ) → AllOneOf answer_numbers (called d root rows n s).answers
numbers-desk-answers = turns-numbers.call-answers

-- a turn: the tree's number is 30 to 38, or 0 and then the desk's is 0 or 1
pub numbers-turn : {rows : ℕ} {e : Event} {t : List ℕ} {d d' : Desk} {x : turns.Later} → turns.Comes rows e t d x d' → rows ≤ 256
    → length (said_by e t).message ≤ 16384 → turns-numbers.Numbered x
numbers-turn = turns-numbers.turn-numbers

-- route sheets
pub numbers-sheet-write : (d : Desk) (out : List ℕ) → OneOf sheet_put_numbers (writes_sheet d out).number
numbers-sheet-write = sheet-writer-calls.sheet-put-numbers

pub numbers-sheet-read : (text store path : List ℕ) (cells : Cells) → OneOf sheet_numbers (sheet_read text store path cells).number
numbers-sheet-read = sheet-reader-calls.sheet-numbers

-- the C functions
pub c-numbers-start : (ws : List ℕ) → OneOf framing-c.start_numbers (starts ws).number
c-numbers-start = framing-c-calls.start-numbers

pub c-numbers-feed : (ws t c a : List ℕ) → OneOf feed_numbers (calls ws t c a).number
c-numbers-feed = framing-c-calls.feed-numbers

pub c-numbers-write-frame : (count : ℕ) (xs out : List ℕ) → OneOf write_numbers (puts (frame_into xs out) count).number
c-numbers-write-frame = framing-c-calls.frame-numbers

pub c-numbers-write-message : (count : ℕ) (m out : List ℕ) → OneOf write_numbers (puts (message_into m out) count).number
c-numbers-write-message = framing-c-calls.message-numbers

pub c-numbers-write-request : (count : ℕ) (out : List ℕ) → OneOf write_numbers (puts (into (frame request_body) out) count).number
c-numbers-write-request = framing-c-calls.request-numbers

pub c-numbers-write-response : (count : ℕ) (out : List ℕ) → OneOf write_numbers (puts (into (frame response_body) out) count).number
c-numbers-write-response = framing-c-calls.response-numbers

pub c-numbers-supervision-start : (ws : List ℕ) (tick : ℕ) → OneOf supervision-c.start_numbers (link-starts ws tick).number
c-numbers-supervision-start = supervision-c-promise.start-numbers

pub c-numbers-supervision-show : (ws : List ℕ) (tick n : ℕ) → OneOf supervision-c.show_numbers (shows ws tick n).number
c-numbers-supervision-show = supervision-c-promise.show-numbers

pub c-numbers-read : (s : List ℕ) (rows : Rows) (answer : List ℕ) → OneOf read_numbers (glow-c.calls s rows answer).number
c-numbers-read = glow-c-calls.glow-read-numbers

pub c-numbers-write : (rows : Rows) (n root : ℕ) (s out answer : List ℕ)
    → OneOf glow-c-numbers.write_numbers (glow-c.write_calls rows n root s out answer).number
c-numbers-write = glow-c-calls.glow-write-numbers

pub c-numbers-accepts : (rows : Rows) (n root : ℕ) (s : List ℕ) → OneOf glow-c-numbers.accept_numbers (glow-c.accept_calls rows n root s)
c-numbers-accepts = glow-c-calls.glow-accept-numbers

-- ember_turn: the number, which is the session's
pub c-numbers-turn : (ws t c : List ℕ) (table : Rows) (fs path : List ℕ) (cells : Cells) (lent a : List ℕ)
    → OneOf feed_numbers (ember-c.turns ws t c table fs path cells lent a).number
c-numbers-turn = ember-calls.turn-numbers

pub c-numbers-sheet-write : (fs path : List ℕ) (cells : Cells) (out words : List ℕ)
    → OneOf sheet_put_numbers (ember-c.sheet_writes fs path cells out words).number
c-numbers-sheet-write = ember-calls.sheet-write-numbers

pub c-numbers-sheet-read : (text store fs path : List ℕ) (cells : Cells) (words : List ℕ)
    → OneOf sheet_numbers (ember-c.sheet_reads text store fs path cells words).number
c-numbers-sheet-read = ember-calls.sheet-read-numbers

-- .. its words where it does not answer 1: word 3, the tree's, is 0 or 30 to 38, word 7, the desk's, 0 or 1, and each answer 0 or 40 to 44
pub c-numbers-turn-words : (ws t c : List ℕ) (table : Rows) (fs path : List ℕ) (cells : Cells) (lent a : List ℕ)
    → ((ember-c.turns ws t c table fs path cells lent a).number ≡ 1 → ⊥) → ember-words.Words (ember-c.turns ws t c table fs path cells lent a)
c-numbers-turn-words = ember-words.turn-words

pub c-numbers-desk-open : (fs path : List ℕ) (mode : ℕ) (cells : Cells) → OneOf open_numbers (ember-c.opens fs path mode cells).number
c-numbers-desk-open = ember-calls.desk-open-numbers

pub c-numbers-desk-legal : (fs path : List ℕ) (cells : Cells) → OneOf ember-words.legal_numbers (ember-c.legals fs path cells)
c-numbers-desk-legal = ember-words.desk-legal-numbers

pub c-numbers-desk-request : (fs : List ℕ) (target : ℕ) (sources : List ℕ) (operation : ℕ) (cells : Cells)
    → OneOf request_numbers (ember-c.requests fs target sources operation cells).number
c-numbers-desk-request = ember-calls.desk-request-numbers

pub c-numbers-desk-call : (fs path : List ℕ) (root : ℕ) (rows : Rows) (n : ℕ) (s lent : List ℕ) (cells : Cells) (words : List ℕ)
    → OneOf call_numbers (ember-c.desk_calls fs path root rows n s lent cells words).number
c-numbers-desk-call = ember-calls.desk-call-numbers

-- ---- Samples: "P1 to P12 form one table, proved by one statement."

pub samples-hold : All p1-to-p12
samples-hold = samples.samples
