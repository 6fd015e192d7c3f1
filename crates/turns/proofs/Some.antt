-- The claim speaks of something: for every stream, every way to cut it, every table and every legal desk there is a list of turns.
use Prim.Native.Nat.{ℕ, suc}
use mathlib.Core.List.{List, [], ◌∷◌, append-nil}
use mathlib.Core.Bool.{true}
use mathlib.Core.Path.{◌≡◌, refl, sym, ap, subst, ◌∙◌}
use lib.ListN.{length}
use Rattle.ber_integers.proofs.Radix.{Below}
use Rattle.framing_session.specs.declared.Session.{Session}
use Rattle.framing_content.specs.Numbers.{store_length}
use Rattle.framing_session.specs.Rules.{begin}
use Rattle.framing_session.specs.Session.{state_of, session_of, Legal}
use Rattle.framing.specs.Offers as offers
use Rattle.framing.proofs.Chunks.{fresh-legal}
use Rattle.framing.proofs.Calls as framing
use Rattle.glow_rows.specs.Entry.{Rows}
use Rattle.desk_crosspoints.specs.Desk.{Desk, with_cells, desk_legal}
use Rattle.turn_rules.specs.Rules.{keep, tells, after}
use Rattle.turn_rules.specs.Turns.{Turn, Turns, none, turn, calls, told, Consumed}
use Rattle.turns.specs.Whole.{later_at}
use Rattle.turn_rules.proofs.Claim.{claim}
use Rattle.turns.proofs.Comes.{comes-at}

-- a table for each turn
module _ (rows : ℕ) (tables : ℕ → Rows) (sized : (i : ℕ) → length (tables i) ≡ rows) where
  -- session calls, made turns: the i-th uses the i-th table
  record Made (s : Session) (t : List ℕ) (d : Desk) (rest : List ℕ) (cs : List offers.Turn) (s'' : Session) (t'' rest'' : List ℕ) : Type 0 where
    pub turns : List Turn
    pub desk : Desk
    pub made : Turns rows s t d rest turns s'' t'' desk rest''
    pub same : calls turns ≡ cs

  made : {s s'' : Session} {t t'' rest rest'' : List ℕ} {cs : List offers.Turn} (i : ℕ) (d : Desk) → offers.Turns s t rest cs s'' t'' rest''
      → Made s t d rest cs s'' t'' rest''
  made i d offers.none = record { turns = []; desk = d; made = none; same = refl }
  made i d (offers.turn {t' = t'} c later r call more) =
      let x = later_at d r.event t' (tables i) in
      let f = made (suc i) (with_cells d x.crosspoints) more in
      record {
        turns = record { offered = c; fed = r; store = t'; later = x.later } ∷ f.turns;
        desk = f.desk;
        made = turn c later r x.later call (comes-at rows d t' (tables i) (sized i) r.event) f.made;
        same = ap (λ (xs : List offers.Turn). record { offered = c; fed = r; store = t' } ∷ xs) f.same;
      }

  -- FOR EVERY way to cut a stream into chunks, from any legal session and any desk, there is a list of turns that offers them, each until it is consumed.
  pub some-turns : (chunks : List (List ℕ)) (s : Session) (t : List ℕ) (d : Desk) → Legal s t → Consumed rows s t d chunks
  some-turns chunks s t d l =
      let k = framing.some-turns chunks s t l in
      let f = made 0 d k.made in
      record {
        turns = f.turns;
        session = k.session;
        store = k.store;
        desk = f.desk;
        made = f.made;
        served = subst (offers.Serves chunks) (sym f.same) k.served;
      }

  -- THE CLAIM, with nothing left open. For every stream of octets, every way to cut it, every store of the right length, every legal desk, and whatever tables
  -- of one length the turns are given, there is a list of turns from a fresh session that offers the chunks, each until it is
  -- consumed; it tells exactly what the rules tell for the stream, and the frame, the message and the desk that it leaves are those that the rules keep.
  pub every-cut : (bytes : List ℕ) → Below 256 bytes → (chunks : List (List ℕ)) → offers.joined chunks ≡ bytes → (t : List ℕ) → length t ≡ store_length
      → (d : Desk) → desk_legal d ≡ true
      → (k : Consumed rows (session_of begin) t d chunks)
      × ((told k.turns 0 ≡ tells rows (keep begin d) 0 bytes) × (keep (state_of k.session k.store) k.desk ≡ after rows (keep begin d) bytes))
  every-cut bytes b chunks e t room d g =
      let k = some-turns chunks (session_of begin) t d (fresh-legal room) in
      let turns = subst (λ (bs : List ℕ). Turns rows (session_of begin) t d bs k.turns k.session k.store k.desk []) e k.made in
      let f = claim room g b turns in
      let x : offers.eaten (calls k.turns) ≡ bytes = sym (append-nil (offers.eaten (calls k.turns))) ∙ f.bytes-are in
      (k, (f.tells ∙ ap (tells rows (keep begin d) 0) x, f.keeps ∙ ap (after rows (keep begin d)) x))
