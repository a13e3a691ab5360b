use Rattle.std.proofs.Common.{ap, sym, ◌∙◌, bytes_eq, string_bytes}
use Rattle.std.specs.List.{position}
use Rattle.iv_roles.proofs.Lists.{position-map}
use Rattle.iv_roles.proofs.roles.Roles.number.Goals as goal

pub returns-in-Some-clause-place : goal.returns-in-Some-clause-place
returns-in-Some-clause-place c =
    c.in-Some.ensures.index
    ∙ sym (position-map (bytes_eq c.args.name.now) string_bytes c.self.inside.names.keys)
    ∙ ap (position (bytes_eq c.args.name.now)) c.self.view_is

pub returns-in-None-clause-place : goal.returns-in-None-clause-place
returns-in-None-clause-place c =
    c.in-None.ensures.index
    ∙ sym (position-map (bytes_eq c.args.name.now) string_bytes c.self.inside.names.keys)
    ∙ ap (position (bytes_eq c.args.name.now)) c.self.view_is
