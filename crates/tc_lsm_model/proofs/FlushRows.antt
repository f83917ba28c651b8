-- Tables of few writes, and the contents that their flushes make, computed.
use Rattle.std.specs.Prelude.{◌≡◌, [], ◌∷◌, Some, None, codes, refl, IsUtf8}
use Rattle.std.specs.Str.{chars}
use Rattle.std.specs.List.Sorted.{IsStrictlySortedBy}
use Rattle.std.proofs.Common.{arith}
use Rattle.std.proofs.lemmas.List.Elements.{All-nil, All-cons}
use Rattle.tc_model.specs.Document.{document_shape}
use Rattle.tc_model.proofs.DictionaryGrowth.{IsDictionary-nil, IsDictionary-push}
use Rattle.tc_model.proofs.KeyedOrder.{sorted_nil}
use Rattle.tc_schema_model.specs.Counted.{nothing}
use Rattle.tc_schema_model.proofs.Grown.{added_stands}
use Rattle.tc_schema_model.proofs.ValueBounds.{nothing_stands}
use Rattle.tc_plain_model.specs.Writes.{set, unset}
use Rattle.tc_lsm_model.specs.Contents.{IsEntry}
use Rattle.tc_lsm_model.specs.Tables.{slot, table_over}
use Rattle.tc_lsm_model.specs.Flushes.{IsFlush}
use Rattle.tc_lsm_model.specs.Rows.{one_of_one, flag, bare, names_of_flag, flag_content, empty_content}

-- a document that is below is gone, and one that only was in the table leaves no entry
pub gone_over_a_document : table_over ((1, bare) ∷ []) (unset 1 ∷ set 2 flag ∷ unset 2 ∷ []) ≡ (1, slot None (Some (document_shape bare))) ∷ []
gone_over_a_document = refl

a_is_text : IsUtf8 (codes "a")
unfolding chars lib.Utf8.encode
a_is_text = (97 ∷ [], (refl, refl))

pub first_flush : IsFlush one_of_one [] (table_over [] (set 1 flag ∷ [])) 1 flag_content
unfolding chars IsStrictlySortedBy
first_flush = record {
  entries = refl;
  names = refl;
  to = refl;
  goes_on = record {
    content = record {
      number = omega arith;
      count = omega arith;
      first = omega arith;
      order = omega arith;
      last = omega arith;
      ascends = (tt, tt);
      entries = All-cons (IsEntry names_of_flag) (set 1 flag) [] (record { key = omega arith; document = ((tt, tt), (a_is_text, tt, tt)); storable = (omega arith, refl); named = (refl, tt) }) (All-nil (IsEntry names_of_flag));
      dictionary = IsDictionary-push [] (codes "a") IsDictionary-nil (record { text = a_is_text; short = omega arith }) refl (omega arith);
      schema = record { canonical = (λ _. refl, λ one. absurd (omega (arith, one)), tt, (omega arith, omega arith, omega arith, (λ _. refl, λ _. refl, tt, tt), tt)); of_objects = refl; small = (omega arith, tt, ((omega arith, tt, tt), tt)); shallow = omega arith };
    };
    here = refl;
    next = refl;
    extends = (names_of_flag, refl);
    stands = added_stands [] (document_shape flag) nothing [] flag refl nothing_stands;
    room = omega arith;
  };
}

pub empty_flush : IsFlush one_of_one [] [] 1 empty_content
empty_flush = record {
  entries = refl;
  names = refl;
  to = refl;
  goes_on = record {
    content = record {
      number = omega arith;
      count = omega arith;
      first = omega arith;
      order = omega arith;
      last = omega arith;
      ascends = sorted_nil;
      entries = All-nil (IsEntry []);
      dictionary = IsDictionary-nil;
      schema = record { canonical = (λ _. refl, λ _. refl, tt, tt); of_objects = refl; small = (omega arith, tt, tt); shallow = omega arith };
    };
    here = refl;
    next = refl;
    extends = ([], refl);
    stands = nothing_stands;
    room = omega arith;
  };
}
