-- How far on an answer is, and what the lent rows are beside the entries: what inner functions ensure.
use Rattle.ber_containers.specs.declared.No.{No}
use Rattle.std.specs.Prelude.{ℕ, ◌+◌, ◌-◌, ◌≤◌, ◌<◌, ◌≡◌, List, [], ◌∷◌, ◌++◌, length, get_or, Result, Ok, Err}
use Rattle.base_choices.specs.Choices.{pick}
use Rattle.ber_containers.specs.Ends.{no}
use Rattle.ber_containers.specs.declared.Open.{Open}
use Rattle.glow_rows.specs.Entry.{Entries, Rows, blank, overlay}
use Rattle.glow_grammar.specs.Grammar.{body, contents_of, past_all}
use Rattle.glow_steps.specs.Members.{due}
use Rattle.glow_steps.specs.Brief.{MemberTold}
use Rattle.glow_walk.specs.declared.Cursor.{Cursor}
use Rattle.glow_walk.specs.declared.Turn.{Turn}
use Rattle.glow_walk.specs.declared.Turn.TheVariants.{On, Read as Ended, Refused as NoTurn}
use Rattle.glow_walk.specs.Tree.{Out, closed, MembersGive, ItemsGive}
use Rattle.glow_walk.specs.Walk.{finished, walk}

-- read from p on, with n entries before it; an entry takes at least a byte
abbrev pub WalkedOnward : ℕ → ℕ → Result (ℕ × ℕ) No → Type 0
WalkedOnward p n (Ok (next, count)) = (p ≤ next) × ((count ≤ next) × (n ≤ count))
WalkedOnward p n (Err e) = Unit {0}

-- the same of one turn: what goes on is further on
abbrev pub TurnOnward : List ℕ → ℕ → ℕ → Turn → Type 0
TurnOnward s p n (On c) = (p < length s) × ((p < c.place) × ((c.count ≤ c.place) × (n ≤ c.count)))
TurnOnward s p n (Ended next count) = (p ≤ next) × ((count ≤ next) × (n ≤ count))
TurnOnward s p n (NoTurn e) = Unit {0}

-- r is as far on as w
abbrev pub Keeps : Result (ℕ × ℕ) No → Result (ℕ × ℕ) No → Type 0
Keeps w r = (p n : ℕ) → WalkedOnward p n w → WalkedOnward p n r

-- an answer with the count of entries, as the code gives it
abbrev pub counted : Result ℕ No → ℕ → Result (ℕ × ℕ) No
counted (Ok next) n = Ok (next, n)
counted (Err e) n = Err e

-- what was read, closed by its outer tag
abbrev pub Closes : List ℕ → Open → ℕ → Result (ℕ × ℕ) No → Result (ℕ × ℕ) No → Type 0
Closes s outer k w r = (a : Result ℕ No) (n : ℕ) → counted a n ≡ w → counted (closed s outer k a) n ≡ r

-- the whole message, as the code gives it
abbrev pub whole : ℕ → Result ℕ No → ℕ → Result (ℕ × ℕ) No
whole which (Ok next) n = Ok (which, n)
whole which (Err e) n = Err e

abbrev pub Finishes : List ℕ → ℕ → Result (ℕ × ℕ) No → Result (ℕ × ℕ) No → Type 0
Finishes s which w r = (a : Result ℕ No) (n : ℕ) → counted a n ≡ w → whole which (finished s a) n ≡ r

-- what a definition gives is what was answered, and the rows are the entries' over `base`
pub record Fills (Gives : Out → Type 0) (base rows : Rows) (r : Result (ℕ × ℕ) No) : Type 0 where
  pub given : Out
  pub gives : Gives given
  pub answers : counted given.answer (length given.entries) ≡ r
  pub holds : rows ≡ overlay given.entries base

-- the rows hold entries, `count` of them, from which what is left, Left, gives what the whole, All, gives
pub record Held (All : Out → Type 0) (Left : Entries → Out → Type 0) (base rows : Rows) (count : ℕ) : Type 0 where
  pub es : Entries
  pub counts : length es ≡ count
  pub holds : rows ≡ overlay es base
  pub gives : (x : Out) → Left es x → All x

abbrev pub cursor : ℕ → ℕ → ℕ → ℕ → Cursor
cursor place before above count = record { place = place; before = before; above = above; count = count }

-- after a container that was gone into
unfoldable pub onward_of : ℕ → ℕ → Result (ℕ × ℕ) No → Turn
onward_of before above (Ok (next, count)) = On (cursor next before above count)
onward_of before above (Err e) = NoTurn e

-- at the end of a row's members
unfoldable pub ended_of : ℕ → Cursor → ℕ → Result (ℕ × ℕ) No
ended_of row at next = pick (due row at.before past_all) (Err (no 33 at.place)) (Ok (next, at.count))

-- what is left from a cursor on, among the members of a row and in a collection
abbrev pub MembersLeft : List ℕ → ℕ → Open → ℕ → ℕ → Cursor → Entries → Out → Type 0
MembersLeft s k o row me at es x = MembersGive s k o row me at.above at.place at.before es x

abbrev pub ItemsLeft : List ℕ → ℕ → Open → ℕ → ℕ → Cursor → Entries → Out → Type 0
ItemsLeft s k o which parent at es x = ItemsGive s k o which parent at.above at.place es x

-- for all entries that the rows held before: what the definition gives from here
abbrev pub Filled : (Cursor → Entries → Out → Type 0) → Cursor → Rows → Rows → Result (ℕ × ℕ) No → Type 0
Filled Left at rows rows' r =
    (es : Entries) (base : Rows) → length es ≡ at.count → rows ≡ overlay es base → Fills (Left at es) base rows' r

-- one turn of it
abbrev pub Turned : (Cursor → Entries → Out → Type 0) → (Out → Type 0) → Rows → Rows → Turn → Type 0
Turned Left All base rows' (On c) = Held All (Left c) base rows' c.count
Turned Left All base rows' (Ended next count) = Fills All base rows' (Ok (next, count))
Turned Left All base rows' (NoTurn e) = Fills All base rows' (Err e)

abbrev pub Turns : (Cursor → Entries → Out → Type 0) → Cursor → Rows → Rows → Turn → Type 0
Turns Left at rows rows' r =
    (es : Entries) (base : Rows) → length es ≡ at.count → rows ≡ overlay es base → Turned Left (Left at es) base rows' r

pub record MembersFill (s : List ℕ) (k : ℕ) (o : Open) (row me above from n : ℕ) (rows rows' : Rows) (r : Result (ℕ × ℕ) No) : Type 0 where
  pub filled : Filled (MembersLeft s k o row me) (cursor from 0 above n) rows rows' r

pub record MembersTurn (s : List ℕ) (k : ℕ) (o : Open) (row me : ℕ) (at : Cursor) (rows rows' : Rows) (r : Turn) : Type 0 where
  pub turned : Turns (MembersLeft s k o row me) at rows rows' r

pub record ItemsFill (s : List ℕ) (k : ℕ) (o : Open) (which parent above from n : ℕ) (rows rows' : Rows) (r : Result (ℕ × ℕ) No) : Type 0 where
  pub filled : Filled (ItemsLeft s k o which parent) (cursor from 0 above n) rows rows' r

pub record ItemsTurn (s : List ℕ) (k : ℕ) (o : Open) (which parent : ℕ) (at : Cursor) (rows rows' : Rows) (r : Turn) : Type 0 where
  pub turned : Turns (ItemsLeft s k o which parent) at rows rows' r

-- the same of what an outer tag holds, j containers allowed inside it: contents, a collection, a new entry
pub record FillsIn (s : List ℕ) (outer : Open) (j : ℕ) (Gives : Out → Type 0) (base rows : Rows) (r : Result (ℕ × ℕ) No) : Type 0 where
  pub given : Out
  pub gives : Gives given
  pub answers : counted (closed s outer j given.answer) (length given.entries) ≡ r
  pub holds : rows ≡ overlay given.entries base

pub record ContentsFill (s : List ℕ) (o outer : Open) (j row me above from n : ℕ) (rows rows' : Rows) (r : Result (ℕ × ℕ) No) : Type 0 where
  pub filled : (es : Entries) (base : Rows) → length es ≡ n → rows ≡ overlay es base
      → FillsIn s outer j (MembersGive s (j - 1) o (contents_of row) me above from 0 es) base rows' r

pub record ListFill (s : List ℕ) (o outer : Open) (j which parent above from n : ℕ) (rows rows' : Rows) (r : Result (ℕ × ℕ) No) : Type 0 where
  pub filled : (es : Entries) (base : Rows) → length es ≡ n → rows ≡ overlay es base
      → FillsIn s outer j (ItemsGive s (j - 1) o which parent above from es) base rows' r

pub record EntryFill (s : List ℕ) (o outer : Open) (j kind parent above from n : ℕ) (rows rows' : Rows) (r : Result (ℕ × ℕ) No) : Type 0 where
  pub filled : (es : Entries) (base : Rows) → length es ≡ n → rows ≡ overlay es base
      → FillsIn s outer j (MembersGive s (j - 1) o kind (length es) above from 0 (es ++ (blank kind parent ∷ []))) base rows' r

-- a member that holds one value, told at once: where its octets stand, and its turn
abbrev pub LeafRoom : List ℕ → Cursor → Type 0
LeafRoom s at =
    (at.place + 3 < length s) × ((at.place + 4 + get_or s (at.place + 3) 0 < 18446744073709551616) × (at.count ≤ at.place))

pub record LeafTurn (s : List ℕ) (row me : ℕ) (at : Cursor) (what : ℕ) (rows rows' : Rows) (r : Turn) : Type 0 where
  pub turned : (o : Open) (k : ℕ) → MemberTold s at.place o.end k row at.before what → (what ≡ 0 → ⊥) → what < body → me < at.count
      → MembersTurn s k o row me at rows rows' r

-- a member that holds contents or a collection, told at once
pub record NestedRoom (s : List ℕ) (k : ℕ) (o : Open) (row me : ℕ) (at : Cursor) (what : ℕ) : Type 0 where
  pub told : (what ≡ 0 → ⊥) → MemberTold s at.place o.end k row at.before what
  pub holds : (what ≡ 0 → ⊥) → body ≤ what
  pub mine : me < at.count
  pub enough : at.count ≤ at.place

-- a whole message into the rows that there are
pub record MessageFill (s : List ℕ) (rows rows' : Rows) (r : Result (ℕ × ℕ) No) : Type 0 where
  pub answers : whole (walk s).which (walk s).out.answer (length (walk s).out.entries) ≡ r
  pub holds : rows' ≡ overlay (walk s).out.entries rows
