-- Words of the answers that are worked out.
use Rattle.std.specs.Prelude.{ℕ, List, codes}
use Rattle.iv_machine.specs.Act.{Refusal, reply, refused}
use Rattle.iv_lines.specs.Texts.{line_text}

-- the text of a refusal
abbrev pub refused_text : ℕ → Refusal → List ℕ
refused_text session r = line_text (reply session (refused r))

abbrev pub unexpected_line : List ℕ
unexpected_line = codes "{\"error\":10,\"place\":11,\"session\":1,\"why\":\"unexpected\"}\n"

abbrev pub missing_line : List ℕ
missing_line = codes "{\"error\":13,\"on\":\"notes\",\"privilege\":\"insert\",\"session\":2}\n"

abbrev pub permissive_line : List ℕ
permissive_line = codes "{\"check\":\"insert\",\"entry\":1,\"error\":14,\"on\":\"notes\",\"session\":2}\n"

abbrev pub restrictive_line : List ℕ
restrictive_line = codes "{\"check\":\"update new\",\"entry\":1,\"error\":15,\"on\":\"notes\",\"policy\":\"b_pos\",\"session\":2}\n"

abbrev pub update_refused_line : List ℕ
update_refused_line = codes "{\"check\":\"update old\",\"entry\":2,\"error\":14,\"on\":\"notes\",\"session\":2}\n"

abbrev pub bad_policy_line : List ℕ
bad_policy_line = codes "{\"error\":10,\"place\":0,\"session\":1,\"why\":\"unknown column\"}\n"

abbrev pub limit_line : List ℕ
limit_line = codes "{\"changes\":[[-1,[1,\"ann\"]]],\"ended\":\"limit\",\"session\":2,\"sub\":1}\n"
