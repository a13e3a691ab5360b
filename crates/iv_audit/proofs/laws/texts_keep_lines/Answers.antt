use Rattle.iv_audit.proofs.Texts.{TextsKeepLines-text_in}
use Rattle.iv_audit.proofs.laws.texts_keep_lines.Goals as goal

pub returns : goal.returns
returns c = TextsKeepLines-text_in
