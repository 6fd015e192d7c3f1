-- What the reader answers to a message, by what the message encodes alone (document 01, "Glow" and "Numbers answered"): the words of `read-exactly`.
use Rattle.std.specs.Prelude.{ℕ, ◌≤◌, ◌<◌, ◌≡◌, List, ◌↔◌, length, drop}
use types.Run.{OneOf}
use Rattle.glow_rows.specs.Entry.{Rows}
use Rattle.glow_reader.specs.declared.Answer.{Answer}
use Rattle.glow_reader.specs.Message.{reply_by, refusals}
use Rattle.glow_trees.specs.Rows.{items_in}
use Rattle.glow_trees.specs.Trees.{Trees, count, flat}
use Rattle.trees_accepted.specs.Stood.{Stood}
use Rattle.encodings.specs.Encodes.{Encodes}

-- 0, as the tree t, whose kinds stand where the grammar has them: "The answer names Root's kind" and how many entries there are; the table's first rows hold
-- the tree's, "in message order, with its parent's place", by content, with the message beside them; "entries past the answer's count are untouched".
pub record ReadAs (s : List ℕ) (rows : Rows) (root : ℕ) (t : Trees) (a : Answer) (rows' : Rows) : Type 0 where
  pub says : reply_by a ≡ record { number = 0; place = 0; count = count t; root = root }
  pub stands : Stood root t
  pub holds : items_in s rows' (count t) ≡ flat 0 0 t
  pub past : drop (count t) rows' ≡ drop (count t) rows

-- "38 ROOM: message right, table too small; says how many"; the table as it was
pub record LacksRoom (rows : Rows) (n : ℕ) (a : Answer) (rows' : Rows) : Type 0 where
  pub says : reply_by a ≡ record { number = 38; place = 0; count = n; root = 0 }
  pub same : rows' ≡ rows

-- 30 to 37, the rows of "Numbers answered" (`refusals`); the table as it was
pub record Refuses (rows : Rows) (a : Answer) (rows' : Rows) : Type 0 where
  pub number : OneOf refusals (reply_by a).number
  pub same : rows' ≡ rows

-- The answer a to the message s, and the table after it:
pub record AnswersExactly (s : List ℕ) (rows : Rows) (a : Answer) (rows' : Rows) : Type 0 where
  -- 0 with a tree exactly if the message encodes it and the table has room for it,
  pub reads : (root : ℕ) (t : Trees) → ReadAs s rows root t a rows' ↔ (Encodes s root t × (count t ≤ length rows))
  -- 38 with a figure exactly if the message encodes a tree of so many entries, and the table has not so many rows,
  pub lacks : (n : ℕ) → LacksRoom rows n a rows' ↔ ((root : ℕ) × ((t : Trees) × (Encodes s root t × ((count t ≡ n) × (length rows < n)))))
  -- and a refusal exactly if it encodes no tree.
  pub refuses : Refuses rows a rows' ↔ ((root : ℕ) (t : Trees) → Encodes s root t → ⊥)
