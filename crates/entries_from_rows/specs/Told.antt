-- What the structs of the kinds of entry (crates/glow_entries) are to make of an entry that the reader read. These are the words of `rows_told`
-- (proofs/Theorems.antt). Of `glow_entries` they name the structs and what its functions answer, and none of its numbers.
use Rattle.std.specs.Prelude.{ℕ, suc, ◌+◌, ◌≡◌, Bool, true, false, List, get_or, ℤ, Option, Some, None}
use Rattle.ber_values.specs.declared.Value.TheVariants.{Int, Text, Bool as Truth}
use Rattle.glow_rows.specs.declared.Cell.{Cell}
use Rattle.glow_rows.specs.Cell.{absent, cell_of, numbers_cell}
use Rattle.glow_rows.specs.Entry.{Entry}
use Rattle.glow_grammar.specs.Grammar as grammar
use Rattle.glow_entries.specs.declared.Part.{Part}
use Rattle.glow_entries.specs.declared.Key.{Key}
use Rattle.glow_entries.specs.declared.Key.TheVariants.{Number as ByNumber, Path as ByPath}
use Rattle.glow_entries.specs.declared.Parameter.{Parameter}
use Rattle.glow_entries.specs.declared.Node.{Node}
use Rattle.glow_entries.specs.declared.Matrix.{Matrix}
use Rattle.glow_entries.specs.declared.Command.{Command}
use Rattle.glow_entries.specs.declared.Connection.{Connection}
use Rattle.glow_entries.specs.declared.Stream.{Stream}
use Rattle.glow_entries.specs.Held.{HeldParameter, HeldNode, HeldMatrix, HeldCommand, HeldConnection, HeldStream}
use Rattle.glow_entries.specs.Record.{parameter_read, node_read, matrix_read, command_read, connection_read, stream_read}

-- "Every listed member is kept, an absent one as absent": what the reader keeps of a member with this value (`cell_of`, `numbers_cell`:
-- crates/glow_rows/specs/Cell.antt). Texts, paths and sources are parts of the message, by start and length.
abbrev pub number_kept : Option ℤ → Cell
number_kept None = absent
number_kept (Some z) = cell_of (Int z)

abbrev pub flag_kept : Option Bool → Cell
flag_kept None = absent
flag_kept (Some b) = cell_of (Truth b)

abbrev pub text_kept : Option Part → Cell
text_kept None = absent
text_kept (Some p) = cell_of (Text p.start p.len)

abbrev pub list_kept : Option Part → Cell
list_kept None = absent
list_kept (Some p) = numbers_cell p.start p.len

abbrev pub key_kept : Key → Cell
key_kept (ByNumber z) = cell_of (Int z)
key_kept (ByPath start len) = numbers_cell start len

-- "with its parent's place": and 1; 0 where there is none
abbrev pub parent_kept : Option ℕ → ℕ
parent_kept None = 0
parent_kept (Some i) = i + 1

-- The member of this context number: of a command, a connection or a stream entry, and an element's number or path, 0; and of an element's contents.
abbrev pub member : Entry → ℕ → Cell
member e n = get_or e.cells n absent

abbrev pub contents : Entry → ℕ → Cell
contents e n = get_or e.cells (suc n) absent

-- Of each kind its struct, member by member. What it holds fits its types, and its reals are numbers (`held`: crates/glow_entries/specs/Held.antt).
-- "All contents: identifier 0, description 1. .. Parameter: value 2, minimum 3, maximum 4, access 5, factor 8, online 9, step 11, stream identifier 14."
pub record IsParameter (e : Entry) (x : Parameter) : Type 0 where
  pub held : HeldParameter x
  pub parent : parent_kept x.parent ≡ e.parent
  pub key : key_kept x.key ≡ member e 0
  pub identifier : text_kept x.identifier ≡ contents e 0
  pub description : text_kept x.description ≡ contents e 1
  pub value : cell_of x.value ≡ contents e 2
  pub minimum : cell_of x.minimum ≡ contents e 3
  pub maximum : cell_of x.maximum ≡ contents e 4
  pub access : number_kept x.access ≡ contents e 5
  pub factor : number_kept x.factor ≡ contents e 8
  pub online : flag_kept x.online ≡ contents e 9
  pub step : number_kept x.step ≡ contents e 11
  pub stream : number_kept x.stream ≡ contents e 14

-- "Node: root flag 2, online 3."
pub record IsNode (e : Entry) (x : Node) : Type 0 where
  pub held : HeldNode x
  pub parent : parent_kept x.parent ≡ e.parent
  pub key : key_kept x.key ≡ member e 0
  pub identifier : text_kept x.identifier ≡ contents e 0
  pub description : text_kept x.description ≡ contents e 1
  pub root : flag_kept x.root ≡ contents e 2
  pub online : flag_kept x.online ≡ contents e 3

-- "Matrix: type 2, mode 3, targets 4, sources 5, total limit 6, limit per target 7."
pub record IsMatrix (e : Entry) (x : Matrix) : Type 0 where
  pub held : HeldMatrix x
  pub parent : parent_kept x.parent ≡ e.parent
  pub key : key_kept x.key ≡ member e 0
  pub identifier : text_kept x.identifier ≡ contents e 0
  pub description : text_kept x.description ≡ contents e 1
  pub matrix_type : number_kept x.matrix_type ≡ contents e 2
  pub mode : number_kept x.mode ≡ contents e 3
  pub targets : number_kept x.targets ≡ contents e 4
  pub sources : number_kept x.sources ≡ contents e 5
  pub total_limit : number_kept x.total_limit ≡ contents e 6
  pub target_limit : number_kept x.target_limit ≡ contents e 7

-- "Command: number 0, mask 1."
pub record IsCommand (e : Entry) (x : Command) : Type 0 where
  pub held : HeldCommand x
  pub parent : parent_kept x.parent ≡ e.parent
  pub number : cell_of (Int x.number) ≡ member e 0
  pub mask : number_kept x.mask ≡ member e 1

-- "Connection: target 0, sources 1, operation 2."
pub record IsConnection (e : Entry) (x : Connection) : Type 0 where
  pub held : HeldConnection x
  pub parent : parent_kept x.parent ≡ e.parent
  pub target : cell_of (Int x.target) ≡ member e 0
  pub sources : list_kept x.sources ≡ member e 1
  pub operation : number_kept x.operation ≡ member e 2

-- "StreamEntry: identifier 0, value 1."
pub record IsStream (e : Entry) (x : Stream) : Type 0 where
  pub held : HeldStream x
  pub parent : parent_kept x.parent ≡ e.parent
  pub identifier : cell_of (Int x.identifier) ≡ member e 0
  pub value : cell_of x.value ≡ member e 1

-- qualified elements have a path, others a number
abbrev pub by_path : Key → Bool
by_path (ByNumber z) = false
by_path (ByPath start len) = true

-- The row r is read, by the struct of the entry's kind, as the entry e: the nine kinds of the grammar (crates/glow_grammar/specs/Grammar.antt).
pub data Told (r : List ℕ) (e : Entry) : Type 0 where
  parameter : (x : Parameter) → e.kind ≡ grammar.parameter → by_path x.key ≡ false → parameter_read r ≡ Some x → IsParameter e x → Told r e
  command : (x : Command) → e.kind ≡ grammar.command → command_read r ≡ Some x → IsCommand e x → Told r e
  node : (x : Node) → e.kind ≡ grammar.node → by_path x.key ≡ false → node_read r ≡ Some x → IsNode e x → Told r e
  matrix : (x : Matrix) → e.kind ≡ grammar.matrix → by_path x.key ≡ false → matrix_read r ≡ Some x → IsMatrix e x → Told r e
  qualified_parameter : (x : Parameter) → e.kind ≡ grammar.qualified_parameter → by_path x.key ≡ true → parameter_read r ≡ Some x → IsParameter e x
      → Told r e
  qualified_node : (x : Node) → e.kind ≡ grammar.qualified_node → by_path x.key ≡ true → node_read r ≡ Some x → IsNode e x → Told r e
  qualified_matrix : (x : Matrix) → e.kind ≡ grammar.qualified_matrix → by_path x.key ≡ true → matrix_read r ≡ Some x → IsMatrix e x → Told r e
  connection : (x : Connection) → e.kind ≡ grammar.connection → connection_read r ≡ Some x → IsConnection e x → Told r e
  stream_entry : (x : Stream) → e.kind ≡ grammar.stream_entry → stream_read r ≡ Some x → IsStream e x → Told r e
