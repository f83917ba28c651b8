use Rattle.std.proofs.Common.{◌≡◌, ◌+◌, ◌++◌, ◌∷◌, ◌∙◌, ℕ, [], suc, length, take, subst, ap, arith}
use Rattle.std.proofs.lemmas.List.{length-replicate, length-set, length_push, take_all}
use Rattle.tc_names.specs.Linking.{place_of, IsIndex}
use Rattle.tc_names.proofs.Found.{index-none, index-name, take-next}
use Rattle.tc_names.proofs.index.Index.of.Goals as goal

pub loop-id-init : goal.loop-id-init
loop-id-init c = record {
  index = rw (c.in_ok-index.ensures.heads, c.in_ok-index.ensures.links) (index-none c.places_for.result);
  places = omega (arith, ap length c.in_ok-index.ensures.heads, length-replicate {A = ℕ} c.places_for.result 0, c.places_for.ensures c.requires.count.0);
  many = ap length c.in_ok-index.ensures.links;
  len = c.in_ok-index.ensures.len;
  room = c.in_ok-index.ensures.room;
}

pub put-requires-clause-places : goal.put-requires-clause-places
put-requires-clause-places c = c.loop-id.invariant.places

pub put-requires-clause-room : goal.put-requires-clause-room
put-requires-clause-room c = let i = c.loop-id.invariant in omega (arith, i.len, i.room, c.loop-id-test.true, c.len-id-end.ensures.count, c.requires.count.1)

pub put-requires-clause-few : goal.put-requires-clause-few
put-requires-clause-few c = let i = c.loop-id.invariant in omega (arith, i.many, c.loop-id-test.true, c.len-id-end.ensures.count, c.requires.few)

pub loop-id-preserved : goal.loop-id-preserved
loop-id-preserved c =
    let i = c.loop-id.invariant in
    let heads = c.loop-id.index.heads.items in
    let links = c.loop-id.index.links.items in
    let name = c.at.result.now in
    let one : c.loop-id.id + 1 ≡ suc c.loop-id.id = omega arith in
    let next : take (c.loop-id.id + 1) c.args.texts.now ≡ take c.loop-id.id c.args.texts.now ++ name ∷ [] = ap (λ n. take n c.args.texts.now) one ∙ take-next c.args.texts.now c.loop-id.id name c.at.ensures.text in
    record {
      index = rw next (index-name heads links c.put.new.self.heads.items c.put.new.self.links.items (take c.loop-id.id c.args.texts.now) name
          i.places i.index c.put.ensures.heads c.put.ensures.links);
      places = omega (arith, i.places, ap length c.put.ensures.heads, length-set heads (place_of (length heads) name) (suc (length links)));
      many = ap length c.put.ensures.links ∙ length_push links _ ∙ ap (λ n. n + 1) i.many;
      len = c.put.ensures.len ∙ ap (λ n. n + 1) i.len;
      room = omega (arith, i.room, c.put.ensures.capacity);
    }

pub returns-clause-index : goal.returns-clause-index
returns-clause-index c =
    let whole : take c.loop-id.id c.args.texts.now ≡ c.args.texts.now = take_all c.loop-id.id c.args.texts.now (let ended = c.loop-id-test.false in omega (arith, ended, c.len-id-end.ensures.count)) in
    subst (IsIndex c.loop-id.index.heads.items c.loop-id.index.links.items) whole c.loop-id.invariant.index

pub returns-clause-places : goal.returns-clause-places
returns-clause-places c = c.loop-id.invariant.places
