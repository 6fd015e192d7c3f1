-- The rules of the claim over every list of turns (document 01, "Contracts"): "The rules are fed the bytes one by one, the table's length and the starting
-- desk. They start outside frames, no message open, and keep the open frame or stray run, the open message and the desk". They know no chunk, no session,
-- no store, and of the table its length alone.
use Rattle.ber_containers.specs.declared.No.{No}
use Rattle.std.specs.Prelude.{ℕ, ◌+◌, List, [], ◌∷◌, ltb, eqb, length, Result, Ok, Err}
use Rattle.base_choices.specs.Choices.{pick}
use Rattle.framing_session.specs.Rules.{State, Said, step}
use Rattle.glow_reader.specs.declared.Answer.TheVariants.{Setup, Refused, Room, Read}
use Rattle.glow_walk.specs.Walk.{walk}
use Rattle.glow_reader.specs.Message.{setup, reply_by, Reply as TreeSaid}
use Rattle.glow_trees.specs.Content.{Item, items_of}
use Rattle.desk_crosspoints.specs.Desk.{Desk, with_cells}
use Rattle.desk_calls.specs.Calls.{Served, handled}

-- What the rules keep: "the open frame or stray run, the open message" (framing's state) "and the desk".
pub record Kept : Type 0 where
  pub stream : State
  pub desk : Desk

abbrev pub keep : State → Desk → Kept
keep s d = record { stream = s; desk = d }

-- ---- the tree

-- What the tree reader tells of a message: 0, Root's kind and how many entries, and the entries by content; or another number, with its place or count.
pub data Tree : Type 0 where
  entries : TreeSaid → List Item → Tree
  refusal : TreeSaid → Tree

-- "38 ROOM: message right, table too small; says how many"
abbrev pub tree_by : ℕ → ℕ → List Item → Result ℕ No → Tree
tree_by table root es (Ok next) =
    pick (ltb table (length es)) (refusal (reply_by (Room (length es)))) (entries (reply_by (Read root (length es))) es)
tree_by table root es (Err e) = refusal (reply_by (Refused e.0 e.1))

-- by the message's bytes and the table's length; "1 SETUP: .. table over 256 entries, message over 16,384 bytes"
unfoldable pub tree_of : List ℕ → ℕ → Tree
tree_of s table =
    pick (setup (length s) table) (refusal (reply_by Setup))
    (tree_by table (walk s).which (items_of s (walk s).out.entries) (walk s).out.answer)

-- ---- what follows an event

pub data Then : Type 0 where
  -- after an event other than 3
  nothing : Then
  -- after 3: the tree reader's answer, other than 0
  refused : TreeSaid → Then
  -- after 3: the tree reader's answer 0, the entries, the desk's number and its answer to each connection
  served : TreeSaid → List Item → ℕ → List ℕ → Then

-- .. and the desk after it
pub record Follow : Type 0 where
  pub told : Then
  pub desk : Desk

abbrev pub follow : Then → Desk → Follow
follow x d = record { told = x; desk = d }

-- the desk's answers to a message's connections, and the crosspoints after them
abbrev pub served_by : Desk → TreeSaid → List Item → Served → Follow
served_by d e es z = follow (served e es 0 z.answers) (with_cells d z.cells)

-- "A message's connections are taken in order, each answered, also after a refused one."; "30 to 38 leave .. desk .. as they were"
abbrev pub asked : Desk → Tree → Follow
asked d (entries e es) = served_by d e es (handled d es)
asked d (refusal e) = follow (refused e) d

-- "Only a finished message goes on to the tree reader."
unfoldable pub follows : ℕ → Desk → Said → Follow
follows table d e = pick (eqb e.number 3) (asked d (tree_of e.message table)) (follow nothing d)

-- ---- the stream

-- An event: how many bytes had come, its own byte included, all that it says, the message's bytes among it, and what follows it.
pub record Told : Type 0 where
  pub offset : ℕ
  pub event : Said
  pub after : Then

-- the list with a byte's event before the later ones, if it makes one (number 0: none)
abbrev pub noted : Said → Then → ℕ → List Told → List Told
noted e x n later = pick (eqb e.number 0) later (record { offset = n; event = e; after = x } ∷ later)

-- What a byte does: framing's rules, then tree and desk.
abbrev pub next : ℕ → Kept → ℕ → Kept
next table k b = let o = step k.stream b in keep o.next (follows table k.desk o.said).desk

-- All that is told over the bytes, n bytes having come before them.
unfoldable pub tells : ℕ → Kept → ℕ → List ℕ → List Told
tells table k n [] = []
tells table k n (b ∷ bs) =
    let e : Said = (step k.stream b).said in
    noted e (follows table k.desk e).told (n + 1) (tells table (next table k b) (n + 1) bs)

-- What is kept after the bytes.
unfoldable pub after : ℕ → Kept → List ℕ → Kept
after table k [] = k
after table k (b ∷ bs) = after table (next table k b) bs
