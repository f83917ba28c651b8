use Rattle.std.proofs.Common.{◌≡◌, ◌∙◌, ◌+◌, ◌≤◌, ◌++◌, length, take, ap, rules, arith, length-take-le, take-take}
use Rattle.tc_record_text.proofs.StagedTexts.{placed_behind, placed_front, room_behind}
use Rattle.tc_record_text.proofs.staged.Staged.put_short.Goals as goal

pub returns : goal.returns
returns c =
    let s = c.self.inside in
    let text = c.args.text.now in
    let out = c.args.out.now.items in
    let all : length s.bytes ≡ 1024 = search rules in
    let long : length text.bytes ≡ 32 = search rules in
    let few : text.len ≤ 32 = search rules in
    let room : s.len + 32 ≤ 1024 = room_behind s.bytes c.make_room.new.self s.len 32 c.self.view_is (omega (arith, c.self.invariant, all)) c.in_ok-make_room.ensures.room in
    placed_behind out c.args.self.now c.make_room.new.out.items c.make_room.new.self s.bytes _ (take text.len (take 32 text.bytes)) s.len (s.len + text.len) c.in_ok-make_room.ensures.same c.self.view_is
    (placed_front s.bytes _ (take 32 text.bytes) s.len _ text.len (omega (arith, room, all)) (omega (arith, few, length-take-le 32 text.bytes (omega (arith, long)))) c.place_front.ensures)
    ∙ ap (λ bytes. out ++ (c.args.self.now ++ bytes)) (take-take text.len 32 text.bytes few)
