-- THE CLAIM for calls of the functions: for turns made call by call, and for the function `turn`.
use mathlib.Core.Bool.{true}
use mathlib.Core.List.{List, [], append-nil}
use mathlib.Core.Path.{◌≡◌, sym, ap, subst, ◌∙◌}
use Prim.Native.Nat.{ℕ}
use lib.ListN.{length}
use Rattle.ber_integers.proofs.Radix.{Below}
use Rattle.framing_session.specs.declared.Session.{Session}
use Rattle.framing_content.specs.Numbers.{store_length}
use Rattle.framing_session.specs.Rules.{begin}
use Rattle.framing_session.specs.Session.{state_of, session_of}
use Rattle.framing.specs.Offers as offers
use Rattle.framing.proofs.Chunks.{fresh-legal}
use Rattle.framing.proofs.Calls as framing
use Rattle.glow_rows.specs.Entry.{Rows}
use Rattle.desk_crosspoints.specs.Desk.{Desk, desk_legal}
use Rattle.turn_rules.specs.Rules.{keep, tells, after}
use Rattle.turn_rules.specs.Turns.{Turn, calls, told, AsRules}
use Rattle.turns.specs.Calls.{CallByCall}
use Rattle.turns.proofs.Calls.{calls-turns, Made, made-turns, some-made}
use Rattle.turn_rules.proofs.Claim.{claim}

-- Whatever list of turns is made by calls of `framing::feed`, `glow_reader::read` and `desk_calls::call`, from a fresh session, any store of the
-- right length and a
-- desk in any legal state, it tells what the rules tell for the bytes consumed so far, and leaves what they keep. (`turns-calls`: every list of turns can be
-- made so, and there is one for every stream and every cut of it: `every-cut`, Some.antt.)
pub calls-claim : {rows : ℕ} {s : Session} {t t' : List ℕ} {d d' : Desk} {bytes rest : List ℕ} {ts : List Turn} → length t ≡ store_length
    → desk_legal d ≡ true → Below 256 bytes → CallByCall rows (session_of begin) t d bytes ts s t' d' rest → AsRules rows begin d 0 ts s t' d' bytes rest
calls-claim room g b k = claim room g b (calls-turns k)

-- Whatever list of calls of `turn` is made, the same.
pub function-claim : {rows : ℕ} {s : Session} {t t' : List ℕ} {d d' : Desk} {bytes rest : List ℕ} {ts : List Turn} → length t ≡ store_length
    → desk_legal d ≡ true → Below 256 bytes → Made rows (session_of begin) t d bytes ts s t' d' rest → AsRules rows begin d 0 ts s t' d' bytes rest
function-claim room g b k = claim room g b (made-turns k)

-- .. and for every stream of octets, every way to cut it, every store of the right length, every legal desk and every table at each call there is a list
-- of calls that offers the chunks, each until it is consumed; it tells exactly what the rules tell for the stream, and leaves what they keep.
module _ (rows : ℕ) (tables : ℕ → Rows) (sized : (i : ℕ) → length (tables i) ≡ rows) where
  pub record Offered (t : List ℕ) (d : Desk) (bytes : List ℕ) (chunks : List (List ℕ)) : Type 0 where
    pub turns : List Turn
    pub session : Session
    pub store : List ℕ
    pub desk : Desk
    pub calls-made : Made rows (session_of begin) t d bytes turns session store desk []
    pub served : offers.Serves chunks (calls turns)
    pub tells : told turns 0 ≡ tells rows (keep begin d) 0 bytes
    pub keeps : keep (state_of session store) desk ≡ after rows (keep begin d) bytes

  pub function-every-cut : (bytes : List ℕ) → Below 256 bytes → (chunks : List (List ℕ)) → offers.joined chunks ≡ bytes → (t : List ℕ)
      → length t ≡ store_length → (d : Desk) → desk_legal d ≡ true → Offered t d bytes chunks
  function-every-cut bytes b chunks e t room d g =
      let k = framing.some-turns chunks (session_of begin) t (fresh-legal room) in
      let m = some-made rows tables sized 0 d k.made in
      let made = subst (λ (bs : List ℕ). Made rows (session_of begin) t d bs m.turns k.session k.store m.desk []) e m.calls-made in
      let a = function-claim room g b made in
      let x : offers.eaten (calls m.turns) ≡ bytes = sym (append-nil (offers.eaten (calls m.turns))) ∙ a.bytes-are in
      record {
        turns = m.turns;
        session = k.session;
        store = k.store;
        desk = m.desk;
        calls-made = made;
        served = subst (offers.Serves chunks) (sym m.same) k.served;
        tells = a.tells ∙ ap (tells rows (keep begin d) 0) x;
        keeps = a.keeps ∙ ap (after rows (keep begin d)) x;
      }
