use Rattle.std.proofs.Common.{arith, ℕ, ◌≡◌, ◌+◌, ◌-◌, ◌∙◌, ap, ◌++◌, ◌*◌, ◌/◌, ◌%◌, length, take, drop, refl, length-append}
use Rattle.tc_bits.specs.Bits.{value, with_bits}
use Rattle.tc_bits.proofs.Places.{put_from}
use Rattle.tc_bits.proofs.ElementsPut.{elements_put}
use Rattle.tc_bits.proofs.putting.put.Goals as goal

pub returns-clause-put : goal.returns-clause-put
returns-clause-put c =
    let place : c.from.result * c.from-2.result ≡ c.args.width * c.args.at = rw (c.from.ensures, c.from-2.ensures) refl in
    ap (λ r. value (r ++ c.put_after.new.into)) (c.split_at_mut-rest.ensures.front ∙ ap (λ p. take (p / 8) c.args.into.now) place)
    ∙ put_from c.args.width (c.args.width * c.args.at) c.args.value c.args.into.now c.put_after.new.into c.requires.room
    (c.put_after.ensures.len ∙ monus _ _ _ c.split_at_mut-rest.ensures.back_len ∙ ap (λ p. length c.args.into.now - p / 8) place)
    (c.put_after.ensures.put ∙ ap (λ p. with_bits c.args.width (p % 8) c.args.value c.split_at_mut-rest.result.1.now) place ∙ ap (with_bits c.args.width _ c.args.value) (c.split_at_mut-rest.ensures.back ∙ ap (λ p. drop (p / 8) c.args.into.now) place))
  where
    monus : (a b n : ℕ) → a + b ≡ n → a ≡ n - b
    monus a b n same = omega (arith, same)

pub returns-clause-elements : goal.returns-clause-elements
returns-clause-elements c =
    let long : length (c.split_at_mut-rest.result.0.now ++ c.put_after.new.into) ≡ length c.args.into.now =
    length-append c.split_at_mut-rest.result.0.now c.put_after.new.into ∙ whole _ _ _ _ c.put_after.ensures.len c.split_at_mut-rest.ensures.front_len _ c.split_at_mut-rest.ensures.back_len in
    λ count within room. elements_put c.args.width c.args.at c.args.value count c.args.into.now (c.split_at_mut-rest.result.0.now ++ c.put_after.new.into) long c.requires.fits (returns-clause-put c) room within
  where
    whole : (a b n m : ℕ) → b ≡ m → a ≡ n → (k : ℕ) → m + n ≡ k → a + b ≡ k
    whole a b n m same front k all = omega (arith, same, front, all)
