use Rattle.std.proofs.Common.{◌≡◌, ◌∙◌, ◌+◌, ◌++◌, length, take, drop, ap, arith, length-append}
use Rattle.std.proofs.lemmas.List.{take_at, drop_at}
use Rattle.tc_record.specs.Record.{tags, fixed}
use Rattle.tc_compact.proofs.Cut.{columns, rest, body_cut}
use Rattle.tc_compact.proofs.cutting.behind_header.Goals as goal

pub split_at-requires-2 : goal.split_at-requires-2
split_at-requires-2 c =
    let r = c.args.of.now in
    let both = tags r.tokens ++ fixed r.tokens in
    let cut = c.split_at.ensures.back ∙ body_cut r _ c.bytes.ensures.spells c.bytes.ensures.same in
    omega (arith, ap length cut, ap length c.tags.ensures, ap length c.fixed.ensures, length-append both (columns r), length-append (tags r.tokens) (fixed r.tokens))

pub returns-clause-front : goal.returns-clause-front
returns-clause-front c =
    let r = c.args.of.now in
    let n = length c.tags.result.now + length c.fixed.result.now in
    let cut = c.split_at.ensures.back ∙ body_cut r _ c.bytes.ensures.spells c.bytes.ensures.same in
    let long : length (tags r.tokens ++ fixed r.tokens) ≡ n = omega (arith, ap length c.tags.ensures, ap length c.fixed.ensures, length-append (tags r.tokens) (fixed r.tokens)) in
    c.split_at-2.ensures.front ∙ ap (take n) cut ∙ take_at (tags r.tokens ++ fixed r.tokens) (columns r) n long

pub returns-clause-behind : goal.returns-clause-behind
returns-clause-behind c =
    let r = c.args.of.now in
    let n = length c.tags.result.now + length c.fixed.result.now in
    let cut = c.split_at.ensures.back ∙ body_cut r _ c.bytes.ensures.spells c.bytes.ensures.same in
    let long : length (tags r.tokens ++ fixed r.tokens) ≡ n = omega (arith, ap length c.tags.ensures, ap length c.fixed.ensures, length-append (tags r.tokens) (fixed r.tokens)) in
    (rest r, c.split_at-2.ensures.back ∙ ap (drop n) cut ∙ drop_at (tags r.tokens ++ fixed r.tokens) (columns r) n long)
