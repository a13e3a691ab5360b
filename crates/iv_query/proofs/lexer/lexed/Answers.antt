use Rattle.std.proofs.Common.{refl, sym, ap, ◌∙◌, arith}
use Rattle.std.proofs.lemmas.Bool.{eqb-true}
use Rattle.std.proofs.lemmas.Bool.Decides.{nat_tests}
use Rattle.iv_query.specs.Tokens.{tok_of}
use Rattle.iv_query.specs.Lexing.{ahead_of}
use Rattle.iv_query.proofs.Lexes.{Behind-Gap, Behind-Token, Before-Gap, Before-Token, Lexes-stop, Lexes-end, lexed-Lexes}
use Rattle.iv_query.proofs.lexer.lexed.Goals as goal

pub loop-rest-smaller-in-Gap : goal.loop-rest-smaller-in-Gap
loop-rest-smaller-in-Gap c = (Behind-Gap c.loop-rest.rest.now c.in-Gap.after.now c.loop-rest.invariant.text (sym c.in_ok-after.ensures ∙ ap ahead_of c.in-Gap.is)).shorter

pub loop-rest-preserved-in-Gap : goal.loop-rest-preserved-in-Gap
loop-rest-preserved-in-Gap c =
    let e = sym c.in_ok-after.ensures ∙ ap ahead_of c.in-Gap.is in
    record { before = Before-Gap _ c.loop-rest.rest.now _ _ c.loop-rest.invariant.text e c.loop-rest.invariant.before; text = (Behind-Gap c.loop-rest.rest.now c.in-Gap.after.now c.loop-rest.invariant.text e).text }

pub loop-rest-smaller : goal.loop-rest-smaller
loop-rest-smaller c = (Behind-Token c.loop-rest.rest.now c.in-Token.after.now (tok_of c.in-Token.lexeme) c.loop-rest.invariant.text (sym c.in_ok-after.ensures ∙ ap ahead_of c.in-Token.is)).shorter

pub loop-rest-preserved : goal.loop-rest-preserved
loop-rest-preserved c =
    let e = sym c.in_ok-after.ensures ∙ ap ahead_of c.in-Token.is in
    record { before = rw c.in_ok-push-in-Token.ensures.items (Before-Token c.args.text.now c.loop-rest.rest.now c.in-Token.after.now c.loop-rest.list.items _ (tok_of c.in-Token.lexeme) c.loop-rest.invariant.text e refl c.loop-rest.invariant.before); text = (Behind-Token c.loop-rest.rest.now c.in-Token.after.now (tok_of c.in-Token.lexeme) c.loop-rest.invariant.text e).text }

pub returns-in-Nothing : goal.returns-in-Nothing
returns-in-Nothing c = lexed-Lexes c.args.text.now _ _ _ c.utf8.text (Lexes-stop c.args.text.now c.loop-rest.rest.now _ (let e = c.loop-rest-test.ensures in grind (arith, nat_tests)) (sym c.in_ok-after.ensures ∙ ap ahead_of c.in-Nothing.is) c.loop-rest.invariant.before)

pub returns : goal.returns
returns c = lexed-Lexes c.args.text.now _ _ _ c.utf8.text (Lexes-end c.args.text.now c.loop-rest.rest.now _ (eqb-true _ _ (sym c.loop-rest-test.ensures)) c.loop-rest.invariant.before)
