use Rattle.std.proofs.Common.{rules}
use Prim.Native.Nat.{ℕ, ◌+◌, ◌-◌}
use mathlib.Core.Path.{◌≡◌, refl, sym, ap, ◌∙◌}
use native.Mathlib.Omega.{arith}
use lib.ListN.{take, drop}
use mathlib.Core.List.{List}
use Rattle.std.specs.Prelude.{Result, Ok}
use Rattle.framing_content.specs.declared.Content.{Content}
use Rattle.framing_content.specs.declared.Fault.{Fault}
use Rattle.framing_session.specs.declared.Frame.TheVariants.{Outside}
use Rattle.framing_content.specs.declared.Content.TheVariants.{Request, Response, Piece}
use Rattle.framing_content.specs.Numbers.{content_start}
use Rattle.framing_content.specs.Content.{content_of}
use Rattle.framing_session.specs.Rules.{ends}
use Rattle.framing_session.specs.Session.{content_in}
use Rattle.framing_session.proofs.Laws.{gives_same, content-length, keeps_same, keeps-refuses, payload-in, piece-long}
use Rattle.framing_pieces.proofs.ends.Goals as goal

-- what the content was found to be, of the content that the session's length says
told : (n : ℕ) (t : List ℕ) {r : Result Content Fault} → r ≡ content_of (take (content_start + n - content_start) (drop content_start t))
    → content_of (content_in n t) ≡ r
told n t e =
    let i : n ≡ content_start + n - content_start = omega arith in
    ap (λ (i : ℕ). content_of (take i (drop content_start t))) i ∙ sym e

pub overflow_sub-n : goal.overflow_sub-n
overflow_sub-n c =
    let a = c.args in
    let p = c.requires in
    let t = a.store.now in
    let q : c.content_of-content.result ≡ Ok (Piece c.in-Ok-Piece.first c.in-Ok-Piece.last) = search rules in
    let k = told a.length t c.content_of-content.ensures ∙ q in
    omega (arith, piece-long _ _ _ k, content-length t p.room a.length p.frame)

pub returns-in-Err : goal.returns-in-Err
unfolding ends
returns-in-Err c =
    let a = c.args in
    let p = c.requires in
    let t = a.store.now in
    let k = told a.length t c.content_of-content.ensures ∙ c.in-Err.is in
    rw k (keeps-refuses t p.room Outside a.message (omega arith) p.message c.in-Err.fault
    ∙ gives_same (sym c.refuses.ensures) refl)

pub returns-in-Ok-Request : goal.returns-in-Ok-Request
unfolding ends
returns-in-Ok-Request c =
    let a = c.args in
    let p = c.requires in
    let t = a.store.now in
    let q : c.content_of-content.result ≡ Ok Request = search rules in
    let k = told a.length t c.content_of-content.ensures ∙ q in
    rw k (keeps_same t p.room Outside a.message (omega arith) p.message 4 ∙ gives_same (sym c.keep_alive.ensures) refl)

pub returns-in-Ok-Response : goal.returns-in-Ok-Response
unfolding ends
returns-in-Ok-Response c =
    let a = c.args in
    let p = c.requires in
    let t = a.store.now in
    let q : c.content_of-content.result ≡ Ok Response = search rules in
    let k = told a.length t c.content_of-content.ensures ∙ q in
    rw k (keeps_same t p.room Outside a.message (omega arith) p.message 5 ∙ gives_same (sym c.keep_alive-in-Ok-Response.ensures) refl)

pub returns-in-Ok-Piece : goal.returns-in-Ok-Piece
unfolding ends
returns-in-Ok-Piece c =
    let a = c.args in
    let p = c.requires in
    let t = a.store.now in
    let q : c.content_of-content.result ≡ Ok (Piece c.in-Ok-Piece.first c.in-Ok-Piece.last) = search rules in
    let k = told a.length t c.content_of-content.ensures ∙ q in
    rw (k, payload-in t p.room a.length p.frame) c.pieces.ensures
