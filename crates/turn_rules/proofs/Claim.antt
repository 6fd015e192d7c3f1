-- THE CLAIM over every list of turns (document 01, "Contracts", demand 3).
use Prim.Native.Nat.{ℕ, ◌+◌}
use mathlib.Core.Bool.{true}
use mathlib.Core.List.{List, [], ◌∷◌, ◌++◌}
use mathlib.Core.Path.{◌≡◌, refl, sym, ap, subst, ◌∙◌}
use lib.ListN.{length}
use Rattle.ber_integers.proofs.Radix.{Below}
use Rattle.framing_session.specs.declared.Session.{Session}
use Rattle.framing_content.specs.Numbers.{store_length}
use Rattle.framing_session.specs.Rules as framing
use Rattle.framing_session.specs.Rules.{State, Said, begin, Happening}
use Rattle.framing_session.specs.Session.{said_by, state_of, session_of, Legal}
use Rattle.framing.specs.Offers as offers
use Rattle.framing.proofs.Chunks.{as-rules, fresh-legal}
use Rattle.desk_crosspoints.specs.Desk.{Desk, desk_legal}
use Rattle.turn_rules.specs.Rules.{keep, Then, Follow, Told, noted, tells, after}
use Rattle.turn_rules.specs.Turns.{Turn, Turns, none, turn, calls, then_of, told, AsRules}
use Rattle.turn_rules.proofs.Octets.{Octets, OctetsIn, happens-octets, begin-octets, octets-here, octets-rest}
use Rattle.turn_rules.proofs.Events.{told_of, desk_over, told-noted, desk-noted, tells-are, after_is}
use Rattle.turn_rules.proofs.Follows.{Agrees, comes-as}

-- the session calls of a list of turns are framing's turns
pub session-calls : {rows : ℕ} {s s'' : Session} {t t'' : List ℕ} {d d'' : Desk} {rest rest'' : List ℕ} {ts : List Turn}
    → Turns rows s t d rest ts s'' t'' d'' rest'' → offers.Turns s t rest (calls ts) s'' t'' rest''
session-calls none = offers.none
session-calls (turn c later r x call comes more) = offers.turn c later r call (session-calls more)

-- what the turns told, by the events of their session calls, and the desk
record Over (rows : ℕ) (d : Desk) (n : ℕ) (ts : List Turn) (d'' : Desk) : Type 0 where
  pub tells : told ts n ≡ told_of rows d (offers.told (calls ts) n)
  pub desk : d'' ≡ desk_over rows d (offers.told (calls ts) n)
  pub legal : desk_legal d'' ≡ true

module _ (rows : ℕ) (d : Desk) (e : Said) (x : Then) (d' : Desk) (a : Agrees rows d e x d') (n : ℕ) (us : List Turn) (d'' : Desk) where
  abbrev hs : List Happening
  hs = offers.told (calls us) n

  over-told : Over rows d' n us d'' → noted e x n (told us n) ≡ told_of rows d (framing.noted e n hs)
  over-told f =
      ap (λ (ts : List Told). noted e x n ts) f.tells
      ∙ ap (λ (y : Follow). noted e y.told n (told_of rows y.desk hs)) a.same
      ∙ sym (told-noted rows d e n hs)

  over-desk : Over rows d' n us d'' → d'' ≡ desk_over rows d (framing.noted e n hs)
  over-desk f = f.desk ∙ ap (λ (y : Follow). desk_over rows y.desk hs) a.same ∙ sym (desk-noted rows d e n hs)

over : {rows : ℕ} {s s'' : Session} {t t'' : List ℕ} {d d'' : Desk} {rest rest'' : List ℕ} {ts : List Turn} → Turns rows s t d rest ts s'' t'' d'' rest''
    → (n : ℕ) → desk_legal d ≡ true → OctetsIn (offers.told (calls ts) n) → Over rows d n ts d''
unfolding told_of desk_over
over none n g o = record { tells = refl; desk = refl; legal = g }
over {rows} {d = d} {d'' = d''} (turn {t' = t'} {d' = d'} {ts = us} c later r x call comes more) n g o =
    let m = n + r.consumed in
    let e = said_by r.event t' in
    let hs = offers.told (calls us) m in
    let a = comes-as comes g (octets-here r.event t' m hs o) in
    let f = over more m a.legal (octets-rest e m hs o) in
    let y = then_of x e.message in
    record { tells = over-told rows d e y d' a m us d'' f; desk = over-desk rows d e y d' a m us d'' f; legal = f.legal }

-- of the front of a list
front : (xs ys : List ℕ) → Below 256 (xs ++ ys) → Below 256 xs
front [] ys h = tt
front (x ∷ xs) ys h = (h.0, front xs ys h.1)

-- from any legal session and desk
pub as-rules-from : {rows : ℕ} {s s'' : Session} {t t'' : List ℕ} {d d'' : Desk} {bytes rest : List ℕ} {ts : List Turn} (n : ℕ) → Legal s t
    → Octets (state_of s t) → desk_legal d ≡ true → Below 256 bytes → Turns rows s t d bytes ts s'' t'' d'' rest
    → AsRules rows (state_of s t) d n ts s'' t'' d'' bytes rest
as-rules-from {rows} {s} {s''} {t} {t''} {d} {d''} {bytes} {rest} {ts} n l p g b turns =
    let f = as-rules (session-calls turns) n l in
    let eaten = offers.eaten (calls ts) in
    let q : Below 256 eaten = front eaten rest (subst (Below 256) (sym f.bytes-are) b) in
    let o : OctetsIn (offers.told (calls ts) n) = subst OctetsIn (sym f.events) (happens-octets eaten (state_of s t) n p q) in
    let v = over turns n g o in
    record {
      tells = v.tells ∙ ap (told_of rows d) f.events ∙ sym (tells-are eaten rows (state_of s t) d n);
      keeps =
          ap (λ (x : State). keep x d'') f.state
          ∙ ap (keep (framing.after (state_of s t) eaten)) (v.desk ∙ ap (desk_over rows d) f.events)
          ∙ sym (after_is eaten rows (state_of s t) d n);
      bytes-are = f.bytes-are;
      counted = f.counted;
      stops = f.stops;
      legal = v.legal;
      session-legal = f.legal;
    }

-- THE CLAIM. From a fresh session, any store of the right length and a desk in any legal state, for every list of turns over a stream of octets, with a
-- table of any one length, its content any at each turn:
-- the events in order, with all that they say, the bytes of each finished message, the tree reader's answer and entries and the answer to each connection are
-- what the rules tell for the bytes consumed so far; so are the frame, the message and the whole desk that are kept; and each session call consumed
-- the bytes up
-- to and including its event's, or all that it was offered. Every front of a list of turns is a list of turns, so this holds after each turn.
pub claim : {rows : ℕ} {s : Session} {t t' : List ℕ} {d d' : Desk} {bytes rest : List ℕ} {ts : List Turn} → length t ≡ store_length
    → desk_legal d ≡ true → Below 256 bytes → Turns rows (session_of begin) t d bytes ts s t' d' rest → AsRules rows begin d 0 ts s t' d' bytes rest
claim room g b turns = as-rules-from 0 (fresh-legal room) begin-octets g b turns
