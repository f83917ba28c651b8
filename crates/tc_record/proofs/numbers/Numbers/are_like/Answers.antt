use Rattle.std.proofs.Common.{◌≡◌, ◌∙◌, ◌+◌, ◌*◌, refl, sym, subst, arith}
use Rattle.std.proofs.lemmas.Bool.{eqb-true}
use Rattle.tc_record.specs.NumbersLeft.{IsSeen}
use Rattle.tc_record.proofs.Alike.{same_seen, elements_taken}
use Rattle.tc_record.proofs.numbers.Numbers.are_like.Goals as goal

pub returns : goal.returns
returns c same =
    let n = c.args.self.now in
    let m = c.args.others.now in
    let count = c.args.count in
    let equal : c.bits_before.result ≡ c.bits_before-2.result = eqb-true c.bits_before.result c.bits_before-2.result same in
    let mine : IsSeen c.bits_before.result (n.width * count) (n.place + n.width * count) n.bytes.now =
    subst (λ k. IsSeen c.bits_before.result (n.width * k) (n.place + n.width * k) n.bytes.now) c.from.ensures c.bits_before.ensures in
    let theirs : IsSeen c.bits_before.result (n.width * count) (m.place + n.width * count) m.bytes.now =
    subst (λ k. IsSeen c.bits_before.result (n.width * k) (m.place + n.width * k) m.bytes.now) c.from.ensures
    (subst (λ number. IsSeen number (n.width * c.from.result) (m.place + n.width * c.from.result) m.bytes.now) (sym equal) c.bits_before-2.ensures) in
    elements_taken n.width n.place n.left count n.bytes.now c.requires.mine
    ∙ same_seen n.width n.place m.place count c.bits_before.result n.bytes.now m.bytes.now (λ some. n.some (omega (arith, some, c.requires.mine))) mine theirs
    ∙ sym (elements_taken n.width m.place m.left count m.bytes.now c.requires.others)
    ∙ rw c.requires.width refl
