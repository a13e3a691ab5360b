use Rattle.std.proofs.Common.{arith}
use Rattle.std.proofs.lemmas.Grind.{common_steps}
use Rattle.iv_jwt.specs.Seen.{IsAnswer}
use Rattle.iv_jwt.specs.Tokens.{judged}
use Rattle.iv_jwt.proofs.GrantedTokens.{IsGranted-IsAnswer}
use Rattle.iv_jwt.proofs.tokens.role_of.Goals as goal

pub returns-clause-granted : goal.returns-clause-granted
returns-clause-granted c =
    let answer : IsAnswer c.granted_in.result (judged c.args.secret.now c.args.now c.args.token.now) = grind (arith, common_steps) in
    IsGranted-IsAnswer c.granted_in.result c.args.secret.now c.args.token.now c.args.now (λ i. omega (arith, c.type_inv.token i)) answer
