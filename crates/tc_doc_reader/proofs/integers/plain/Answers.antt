use Rattle.std.proofs.Common.{◌≡◌, ◌∙◌, ◌+◌, ◌*◌, ◌^◌, ◌<◌, ◌≤◌, pos, Some, option_and_then, length, get_or, sym, ap, subst, take_all, arith}
use Rattle.std.proofs.lemmas.Str.{digit_value_digit}
use Rattle.std.proofs.lemmas.Int.{to_z_pos}
use Rattle.std.proofs.lemmas.Int.Digits.{digits_more, digits_value_more}
use Rattle.std.specs.Char.{digit_value}
use Rattle.std.specs.Int.{w64}
use Rattle.std.specs.Str.Parse.{digits_value, AllDigits}
use Rattle.serde_json.specs.Find.{as_i64}
use Rattle.serde_json.specs.Read.{number_of}
use Rattle.tc_doc_reader.proofs.PlainNumbers.{plain_number}
use Rattle.tc_doc_reader.proofs.integers.plain.Goals as goal

pub digits-preserved : goal.digits-preserved
digits-preserved c =
    let l = c.digits in
    let bs = c.args.bytes.now in
    let d = get_or bs l.at 0 in
    let inside : l.at < length bs = grind arith in
    let least : 48 ≤ d = grind arith in
    let most : d ≤ 57 = grind arith in
    let small : l.number < 100000000000000000 = grind arith in
    let value = digit_value_digit d (least, most) in
    let more = digits_value_more 10 bs l.at inside in (
      omega (arith, inside),
      digits_more 10 bs l.at inside l.invariant.1 (omega (arith, value, most)),
      more ∙ ap (λ n. n * 10 + digit_value d) l.invariant.2 ∙ ap (λ n. l.number * 10 + n) (omega (arith, value)),
      omega (arith, small, most),
    )

pub returns : goal.returns
returns c =
    let l = c.digits in
    let bs = c.args.bytes.now in
    let some : 0 < length bs = grind arith in
    let whole = take_all l.at bs (grind arith) in
    let digits : AllDigits 10 bs = subst (AllDigits 10) whole l.invariant.1 in
    let value : digits_value 10 bs ≡ l.number = ap (digits_value 10) (sym whole) ∙ l.invariant.2 in
    let fits : l.number < 2 ^ 63 = omega (arith, l.invariant.3) in
    subst (λ n. option_and_then as_i64 (number_of bs) ≡ Some (pos n)) value (plain_number bs some digits (rw value fits)) ∙ ap Some (sym (to_z_pos w64 l.number fits))
