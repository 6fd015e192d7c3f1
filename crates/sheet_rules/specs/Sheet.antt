-- The route sheet of a desk (document 01, "Desk"): "one message holding the qualified matrix with type, counts and limits, every target and its sources
-- ascending, operation and empty lists left out, written as upper-case hexadecimal lines, one frame and 0A a line."
use Rattle.std.specs.Prelude.{ℕ, zero, suc, ◌/◌, ◌%◌, List, [], ◌∷◌, ◌++◌, Bool, true, false, length, take, drop, eqb, Option, Some, None}
use Rattle.base_choices.specs.Choices.{pick}
use Rattle.base_hex.specs.Digits.{glyph_of, hex_text}
use Rattle.ber_identifiers.specs.Identifier.{oid_octets}
use Rattle.glow_rows.specs.Cell.{integer, numbers}
use Rattle.glow_grammar.specs.Grammar.{qualified_matrix, connection}
use Rattle.glow_trees.specs.Content.{Content, nothing, word, bytes}
use Rattle.glow_trees.specs.Trees.{Trees, none, tree}
use Rattle.glow_trees.specs.Written.{message_octets, written_real}
use Rattle.framing_packets.specs.Written.{packet, payload_limit, earlier, Outcome, limited}
use Rattle.desk_crosspoints.specs.declared.Figures.{Figures}
use Rattle.desk_crosspoints.specs.Desk.{Desk}
use Rattle.desk_rows.specs.Sources.{sources_in}
unfoldable pub use Rattle.desk_rows.specs.Sources.{sources_from}

-- the sources of a target
abbrev pub sources_at : Desk → ℕ → List ℕ
sources_at d t = sources_in d.figures.sources d.crosspoints t

-- members: integers, relative identifiers, and those left out
abbrev pub number : ℕ → Content
number n = word integer n

abbrev pub identifier : List ℕ → Content
identifier ns = bytes numbers (oid_octets ns)

-- "empty lists left out"
abbrev pub list : List ℕ → Content
list [] = nothing
list (s ∷ ss) = identifier (s ∷ ss)

-- "limits, where given"
abbrev pub limit : Option ℕ → Content
limit None = nothing
limit (Some n) = number n

unfoldable pub left_out : ℕ → List Content
left_out zero = []
left_out (suc n) = nothing ∷ left_out n

-- a connection: target, sources; "operation .. left out"
abbrev pub link_members : ℕ → List ℕ → List Content
link_members target sources = number target ∷ list sources ∷ left_out 14

-- the qualified matrix: its path; neither identifier nor description; type, no mode, targets, sources, total limit, limit per target
abbrev pub matrix_members : Figures → List ℕ → List Content
matrix_members f path =
    identifier path ∷ nothing ∷ nothing
    ∷ number f.kind ∷ nothing ∷ number f.targets ∷ number f.sources ∷ limit f.total ∷ limit f.each ∷ left_out 7

-- "every target": n of them, from t on
unfoldable pub links : Desk → ℕ → ℕ → Trees
links d t zero = none
links d t (suc n) = tree connection (link_members t (sources_at d t)) none none (links d (suc t) n)

unfoldable pub sheet_tree : Desk → Trees
sheet_tree d = tree qualified_matrix (matrix_members d.figures d.path) none (links d 0 d.figures.targets) none

-- "one message": Root's elements are 0
unfoldable pub sheet_message : Desk → List ℕ
sheet_message d = message_octets written_real 0 (sheet_tree d)

-- "upper-case hexadecimal": a frame and 0A
abbrev pub line_of : List ℕ → List ℕ
line_of frame = hex_text frame ++ (10 ∷ [])

-- a message as packets, n full ones before the last (crates/framing_writer, `packets`), "one frame and 0A a line"
unfoldable pub packet_lines : ℕ → Bool → List ℕ → List ℕ
packet_lines zero first m = line_of (packet first true m)
packet_lines (suc n) first m = line_of (packet first false (take payload_limit m)) ++ packet_lines n false (drop payload_limit m)

abbrev pub message_lines : List ℕ → List ℕ
message_lines m = packet_lines (earlier (length m)) true m

-- The sheet.
unfoldable pub sheet_of : Desk → List ℕ
sheet_of d = message_lines (sheet_message d)

-- ---- frames as lines (`write_lines`), whatever message they hold

-- A byte in two digits; EOF ends a frame, and 0A its line. So frames, one after another, are written as lines (`message-break`).
unfoldable pub broken : ℕ → List ℕ
broken b = glyph_of (b / 16) ∷ glyph_of (b % 16) ∷ pick (eqb b 255) (10 ∷ []) []

unfoldable pub breaks : List ℕ → List ℕ
breaks [] = []
breaks (b ∷ bs) = broken b ++ breaks bs

-- frames of at most 65,536 bytes as lines, or 46
abbrev pub breaks_into : List ℕ → List ℕ → Outcome
breaks_into bs o = limited (length bs) 65536 (breaks bs) o
