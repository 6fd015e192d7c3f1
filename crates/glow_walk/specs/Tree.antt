-- The tree: "an element may hold a collection and a collection holds elements." The entries so far go along, and each element, connection and
-- stream entry adds one.
use Rattle.ber_containers.specs.declared.No.{No}
use Rattle.std.specs.Prelude.{ℕ, zero, suc, ◌+◌, ◌-◌, ◌<◌, ◌≡◌, List, [], ◌∷◌, ◌++◌, length, Result, Ok, Err}
use Rattle.ber_containers.specs.declared.Open.{Open}
use Rattle.ber_containers.specs.declared.Tag.{Tag}
use Rattle.ber_containers.specs.Ends.{no, last_at}
use Rattle.glow_rows.specs.declared.Cell.{Cell}
use Rattle.glow_rows.specs.Entry.{Entries, blank, put_cell}
use Rattle.glow_grammar.specs.Grammar.{contents_of}
use Rattle.glow_steps.specs.declared.Member.{Member}
use Rattle.glow_steps.specs.declared.Member.TheVariants.{Done, Over, Leaf, Contents, Items, Refused as NoMember}
use Rattle.glow_steps.specs.declared.Item.{Item}
use Rattle.glow_steps.specs.declared.Item.TheVariants.{Done as NoMore, Element, Refused as NoItem}
use Rattle.glow_steps.specs.Members.{member_at, item_at}

-- the place after what was read, or a refusal; and the entries so far
pub record Out : Type 0 where
  pub answer : Result ℕ No
  pub entries : Entries

abbrev pub out : Result ℕ No → Entries → Out
out answer entries = record { answer = answer; entries = entries }

-- what was read in an outer tag is the one value that it holds; k containers are allowed inside it
unfoldable pub closed : List ℕ → Open → ℕ → Result ℕ No → Result ℕ No
closed s outer k (Ok q) = last_at s q outer k
closed s outer k (Err e) = Err e

abbrev pub on_next : Result ℕ No → Entries → (ℕ → Entries → Out) → Out
on_next (Ok next) es go = go next es
on_next (Err e) es go = out (Err e) es

abbrev pub then_closed : List ℕ → Open → ℕ → Out → (ℕ → Entries → Out) → Out
then_closed s outer k x go = on_next (closed s outer k x.answer) x.entries go

abbrev pub on_member : Member → Entries → (ℕ → ℕ → Out) → (ℕ → ℕ → Cell → ℕ → ℕ → Out) → (ℕ → Open → Tag → ℕ → Out)
    → (ℕ → ℕ → Open → Tag → ℕ → Out) → Out
on_member (Done next) es over leaf contents items = out (Ok next) es
on_member (Over before next) es over leaf contents items = over before next
on_member (Leaf before c v above next) es over leaf contents items = leaf before c v above next
on_member (Contents before outer g k) es over leaf contents items = contents before outer g k
on_member (Items before which outer g k) es over leaf contents items = items before which outer g k
on_member (NoMember e) es over leaf contents items = out (Err e) es

abbrev pub on_item : Item → Entries → (ℕ → Open → Tag → ℕ → Out) → Out
on_item (NoMore next) es element = out (Ok next) es
on_item (Element kind outer g k) es element = element kind outer g k
on_item (NoItem e) es element = out (Err e) es

-- From p on: the members of a row, kept in the entry at place `me`; and the items of a collection, whose parent's place and 1 is `parent`.
-- f is more than what is left of the message.
unfoldable mutual
  pub members_by : ℕ → List ℕ → ℕ → Open → ℕ → ℕ → ℕ → ℕ → ℕ → Entries → Out
  members_by zero s k o row me above p before es = out (Err (no 0 0)) es
  members_by (suc f) s k o row me above p before es =
      on_member (member_at s p o k row above before) es
      (λ before' next. members_by f s k o row me above next before' es)
      (λ before' c v above' next. members_by f s k o row me above' next before' (put_cell es me c v))
      (λ before' outer g j.
      then_closed s outer j (members_by f s (j - 1) g.inner (contents_of row) me above g.start 0 es)
      (λ next es'. members_by f s k o row me above next before' es'))
      (λ before' which outer g j.
      then_closed s outer j (items_by f s (j - 1) g.inner which (me + 1) above g.start es)
      (λ next es'. members_by f s k o row me above next before' es'))

  pub items_by : ℕ → List ℕ → ℕ → Open → ℕ → ℕ → ℕ → ℕ → Entries → Out
  items_by zero s k o which parent above p es = out (Err (no 0 0)) es
  items_by (suc f) s k o which parent above p es =
      on_item (item_at s p o k which) es
      (λ kind outer g j.
      then_closed s outer j (members_by f s (j - 1) g.inner kind (length es) above g.start 0 (es ++ (blank kind parent ∷ [])))
      (λ next es'. items_by f s k o which parent above next es'))

-- x is what every such f gives
abbrev pub MembersGive : List ℕ → ℕ → Open → ℕ → ℕ → ℕ → ℕ → ℕ → Entries → Out → Type 0
MembersGive s k o row me above p before es x = (f : ℕ) → length s - p < f → members_by f s k o row me above p before es ≡ x

abbrev pub ItemsGive : List ℕ → ℕ → Open → ℕ → ℕ → ℕ → ℕ → Entries → Out → Type 0
ItemsGive s k o which parent above p es x = (f : ℕ) → length s - p < f → items_by f s k o which parent above p es ≡ x
