use Rattle.std.proofs.Common.{◌≡◌, ◌++◌, drop, map}
use Rattle.tc_command.specs.Replies.{rendered_of}
use Rattle.tc_server.specs.Window.{each_rendered, mixed, rendered_refused}
use Rattle.tc_server.proofs.window.push_all.Given as goal

-- what is written, before the lines of what is left, is the whole
abbrev pub invariant-loop-refusal : goal.invariant-loop-refusal
invariant-loop-refusal l =
    l.replies.items ++ each_rendered (mixed rendered_refused (drop l.refusal-index l.refusals) (map (λ a. rendered_of a.reply) l.rest))
    ≡ l.initial.replies.items ++ each_rendered (mixed rendered_refused l.refusals (map (λ a. rendered_of a.reply) l.answers))
