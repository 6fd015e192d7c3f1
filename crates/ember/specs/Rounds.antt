-- The words of the claim for `ember_turn` (proofs/Claim.antt): a list of its calls, refused ones among them, and that what they answered tells what turns told.
use Rattle.std.specs.Prelude.{ℕ, cond, List, [], ◌∷◌, ◌++◌, ◌≡◌, length, get_or, take, drop}
use Rattle.framing_session.specs.Rules.{Said, begin}
use Rattle.framing_session.specs.Session.{said_by}
use Rattle.framing_words.specs.Words.{session_at}
use Rattle.glow_rows.specs.Entry.{Rows}
use Rattle.desk_crosspoints.specs.Crosspoints.{Cells}
use Rattle.turns.specs.declared.After.{After}
use Rattle.turn_rules.specs.Turns as claim
use Rattle.turns.specs.Whole.{later_of}
use Rattle.desk_words.specs.Words.{desk_in}
use Rattle.ember_answers.specs.Answers.{later_words}
use Rattle.ember.specs.Calls.{Turned, turns}

-- A call: what was offered, and what it answered and left.
pub record Round : Type 0 where
  pub offered : List ℕ
  pub left : Turned

-- A list of calls on one desk: each takes the session's words, the store and the crosspoints that the call before it left, and is offered bytes from the first
-- not yet consumed. The table's content, the answers lent and the answer's words may be any at each.
-- A call that is answered with 1 may be any: lent the first i words of the session, j bytes of the store and k of the crosspoints, for any counts, any table,
-- figures and path. It consumed nothing: the bytes that it was offered come again.
pub data Rounds (rows : ℕ) (fs path : List ℕ) : List ℕ → List ℕ → Cells → List ℕ → List Round → List ℕ → List ℕ → Cells → List ℕ → Type 0 where
  none : {ws t : List ℕ} {cells : Cells} {rest : List ℕ} → Rounds rows fs path ws t cells rest [] ws t cells rest
  round : {ws ws'' t t'' : List ℕ} {cells cells'' : Cells} {rest'' : List ℕ} {xs : List Round} (c later : List ℕ) (table : Rows) (lent a : List ℕ) (x : Turned)
      → turns ws t c table fs path cells lent a ≡ x → (x.number ≡ 1 → ⊥) → length table ≡ rows
      → Rounds rows fs path x.session x.store x.crosspoints (drop (get_or x.answer 1 0) (c ++ later)) xs ws'' t'' cells'' rest''
      → Rounds rows fs path ws t cells (c ++ later) (record { offered = c; left = x } ∷ xs) ws'' t'' cells'' rest''
  refused : {ws ws'' t t'' : List ℕ} {cells cells'' : Cells} {rest'' : List ℕ} {xs : List Round} (i j k : ℕ) (c later : List ℕ) (table : Rows)
      (figures numbers lent a : List ℕ) (x : Turned) → turns (take i ws) (take j t) c table figures numbers (take k cells) lent a ≡ x → x.number ≡ 1
      → Rounds rows fs path (x.session ++ drop i ws) (x.store ++ drop j t) (x.crosspoints ++ drop k cells) (c ++ later) xs ws'' t'' cells'' rest''
      → Rounds rows fs path ws t cells (c ++ later) (record { offered = c; left = x } ∷ xs) ws'' t'' cells'' rest''

-- What a call was offered, answered and left is what a turn tells: the bytes offered, the event's number, the store, what came after with the answers, the
-- table and the crosspoints, and the nine words.
pub record Tells (r : Round) (y : claim.Turn) : Type 0 where
  pub offered-is : r.offered ≡ y.offered
  pub store_is : r.left.store ≡ y.store
  pub number_is : r.left.number ≡ (said_by y.fed.event y.store).number
  pub later-is : (z : After) × (later_of z r.left.answers r.left.table r.left.crosspoints ≡ y.later)
  pub words_are : let e : Said = said_by y.fed.event y.store in
      r.left.answer ≡ cond e.discarded 1 0 ∷ y.fed.consumed ∷ length e.message ∷ later_words y.later

-- Each call tells a turn; one that is answered with 1 tells none.
pub data AllTell : List Round → List claim.Turn → Type 0 where
  none : AllTell [] []
  more : {r : Round} {y : claim.Turn} {rs : List Round} {ys : List claim.Turn} → Tells r y → AllTell rs ys → AllTell (r ∷ rs) (y ∷ ys)
  silent : {r : Round} {rs : List Round} {ys : List claim.Turn} → r.left.number ≡ 1 → AllTell rs ys → AllTell (r ∷ rs) ys

-- What the claim says of a list of calls, from a fresh session's words and a desk.
pub record Claimed (rows : ℕ) (fs path : List ℕ) (cells : Cells) (bytes : List ℕ) (xs : List Round) (ws t : List ℕ) (cells' : Cells)
    (rest : List ℕ) : Type 0 where
  pub list : List claim.Turn
  -- what the calls answered and left is what these turns told
  pub tell : AllTell xs list
  -- and that is what the rules tell and keep for the bytes consumed
  pub holds : claim.AsRules rows begin (desk_in fs path cells) 0 list (session_at ws) t (desk_in fs path cells') bytes rest
