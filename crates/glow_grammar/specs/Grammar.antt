-- The grammar (document 01, "Glow"), as tables: for each kind its tag, its members by context number, what stands there and what is required; for each
-- collection the kinds that it may hold. A request that adds or moves a member, a kind or a tag changes rows here.
use Rattle.std.specs.Prelude.{ℕ, ◌+◌, ◌*◌, List, [], ◌∷◌, Bool, get_or, leb, eqb}
use Rattle.base_choices.specs.Choices.{pick}
pub use Rattle.glow_rows.specs.Kind.{parameter, command, node, matrix, qualified_parameter, qualified_node, qualified_matrix, connection, stream_entry}

-- What stands at a member.
abbrev pub no : ℕ
no = 0  -- not listed: passed over

abbrev pub name : ℕ
name = 1  -- a text by the rule on identifiers

abbrev pub text : ℕ
text = 2

abbrev pub flag : ℕ
flag = 3  -- a boolean

abbrev pub any : ℕ
any = 4  -- a value of any kind

abbrev pub step : ℕ
step = 5  -- "Numbers are 1 to 2,147,483,647": a number that adds one to the path

abbrev pub path : ℕ
path = 6  -- "A full path has 1 to 16 numbers."

abbrev pub list : ℕ
list = 7  -- sources of a connection: a relative identifier that may be empty

abbrev pub from0 : ℕ
from0 = 8  -- "target, source and stream numbers, counts and limits start at 0": 0 to 2,147,483,647

abbrev pub int32 : ℕ
int32 = 9  -- "command, mask, factor and step are signed 32-bit"

abbrev pub to3 : ℕ
to3 = 10  -- "access 0 to 3"

abbrev pub to2 : ℕ
to2 = 11  -- "Type and operation are 0 to 2"

abbrev pub to1 : ℕ
to1 = 12  -- "mode 0 or 1"

abbrev pub body : ℕ
body = 13  -- contents, a set

abbrev pub kids : ℕ
kids = 14  -- children, an ElementCollection

abbrev pub links : ℕ
links = 15  -- connections, a sequence

-- The kinds of entries (crates/glow_rows/specs/Kind.antt) and the contents: each has a row of members.
abbrev pub parameter_contents : ℕ
parameter_contents = 10

abbrev pub node_contents : ℕ
node_contents = 11

abbrev pub matrix_contents : ℕ
matrix_contents = 12

-- "Context numbers (001, notation)": the members of each row, by context number.
unfoldable pub members : List (List ℕ)
members =
    -- 0       1       2       3       4       5       6       7       8       9       10      11      12      13      14
    [] ∷
    (step ∷ body ∷ kids ∷ []) ∷  -- parameter
    (int32 ∷ int32 ∷ []) ∷  -- command: number, mask
    (step ∷ body ∷ kids ∷ []) ∷  -- node
    (step ∷ body ∷ kids ∷ no ∷ no ∷ links ∷ []) ∷  -- matrix
    (path ∷ body ∷ kids ∷ []) ∷  -- qualified parameter
    (path ∷ body ∷ kids ∷ []) ∷  -- qualified node
    (path ∷ body ∷ kids ∷ no ∷ no ∷ links ∷ []) ∷  -- qualified matrix
    (from0 ∷ list ∷ to2 ∷ []) ∷  -- connection: target, sources, operation
    (from0 ∷ any ∷ []) ∷  -- stream entry: identifier, value
    (name ∷ text ∷ any ∷ any ∷ any ∷ to3 ∷ no ∷ no ∷ int32 ∷ flag ∷ no ∷ int32 ∷ no ∷ no ∷ from0 ∷ []) ∷
    (name ∷ text ∷ flag ∷ flag ∷ []) ∷  -- contents of a node: .., root flag, online
    (name ∷ text ∷ to2 ∷ to1 ∷ from0 ∷ from0 ∷ from0 ∷ from0 ∷ []) ∷ []

-- what stands at member n of a row
unfoldable pub rule_of : ℕ → ℕ → ℕ
rule_of row n = get_or (get_or members row []) n no

-- "Number or path, a connection's target and both members of a stream entry are required, nothing else": the first members of a row, how many
unfoldable pub requirements : List ℕ
requirements = 0 ∷ 1 ∷ 1 ∷ 1 ∷ 1 ∷ 1 ∷ 1 ∷ 1 ∷ 1 ∷ 2 ∷ []

unfoldable pub required : ℕ → ℕ
required row = get_or requirements row 0

-- contents are sets, all else are sequences
unfoldable pub is_set : ℕ → Bool
is_set row = leb parameter_contents row

-- the row of a kind's contents
unfoldable pub contents_rows : List ℕ
contents_rows = 0 ∷ parameter_contents ∷ 0 ∷ node_contents ∷ matrix_contents ∷ parameter_contents ∷ node_contents ∷ matrix_contents ∷ []

unfoldable pub contents_of : ℕ → ℕ
contents_of row = get_or contents_rows row 0

-- The tags: classes, and each number once. "Application numbers", by kind of entry:
unfoldable pub applications : List ℕ
applications =
    0 ∷  -- no kind
    1 ∷  -- Parameter
    2 ∷  -- Command
    3 ∷  -- Node
    13 ∷  -- Matrix
    9 ∷  -- QualifiedParameter
    10 ∷  -- QualifiedNode
    17 ∷  -- QualifiedMatrix
    16 ∷  -- Connection
    6 ∷  -- StreamEntry
    []

-- .. of Root and the collections in it, and of children
abbrev pub root_tag : ℕ
root_tag = 0

abbrev pub element_collection : ℕ
element_collection = 4

abbrev pub stream_collection : ℕ
stream_collection = 5

abbrev pub root_element_collection : ℕ
root_element_collection = 11

-- universal numbers: of connections, and of contents
abbrev pub sequence : ℕ
sequence = 16

abbrev pub set : ℕ
set = 17

abbrev pub universal : ℕ
universal = 0

abbrev pub application : ℕ
application = 1

abbrev pub context : ℕ
context = 2

-- context numbers: "Item of any collection: 0, no other"; "contents 1, children 2; matrices also connections 5"
abbrev pub item_tag : ℕ
item_tag = 0

abbrev pub contents_member : ℕ
contents_member = 1

abbrev pub kids_member : ℕ
kids_member = 2

abbrev pub links_member : ℕ
links_member = 5

-- 2^28 is above every tag number
abbrev pub past_all : ℕ
past_all = 268435456

-- the octet of a constructed tag with a number below 31
abbrev pub octet_of : ℕ → ℕ → ℕ
octet_of class number = class * 64 + 32 + number

-- The collections.
abbrev pub root_elements : ℕ
root_elements = 0  -- RootElementCollection

abbrev pub children : ℕ
children = 1  -- ElementCollection

abbrev pub connections : ℕ
connections = 2  -- a sequence

abbrev pub streams : ℕ
streams = 3  -- StreamCollection

abbrev pub no_root : ℕ
no_root = 4  -- none that Root may hold

-- "At most 64 containers, outer tags among them, open at once": all, and what is left in Root and in its collection
abbrev pub depth : ℕ
depth = 64

abbrev pub in_root : ℕ
in_root = 63

abbrev pub in_collection : ℕ
in_collection = 62

-- The kinds that a collection may hold. "Qualified elements stand only at root level."
unfoldable pub holds : List (List ℕ)
holds =
    (parameter ∷ command ∷ node ∷ matrix ∷ qualified_parameter ∷ qualified_node ∷ qualified_matrix ∷ []) ∷
    (parameter ∷ command ∷ node ∷ matrix ∷ []) ∷
    (connection ∷ []) ∷
    (stream_entry ∷ []) ∷ []

-- the kind among these that has an application number, or 0
unfoldable pub kind_among : List ℕ → ℕ → ℕ
kind_among [] number = 0
kind_among (kind ∷ kinds) number =
    let rest : ℕ = kind_among kinds number in
    pick (eqb (get_or applications kind 0) number) kind rest

unfoldable pub kind_in : ℕ → ℕ → ℕ
kind_in which number = kind_among (get_or holds which []) number

-- The tag around what a member holds: contents are a set, children an ElementCollection, connections a sequence.
unfoldable pub inner_class : ℕ → ℕ
inner_class what = pick (eqb what kids) application universal

unfoldable pub inner_number : ℕ → ℕ
inner_number what = pick (eqb what body) set (pick (eqb what kids) element_collection sequence)

-- the collection that a member holds
unfoldable pub collection_of : ℕ → ℕ
collection_of what = pick (eqb what kids) children connections

-- Root's collection by its application number
unfoldable pub root_of : ℕ → ℕ
root_of number = pick (eqb number root_element_collection) root_elements (pick (eqb number stream_collection) streams no_root)

-- .. and its application number
unfoldable pub root_number : ℕ → ℕ
root_number root = pick (eqb root root_elements) root_element_collection stream_collection
