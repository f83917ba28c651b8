-- What is asked for may be stored, and takes so many bytes of a frame.
use Rattle.std.proofs.Common.{◌≡◌, ◌<◌, ℕ, List, Some, None, length, refl, sym, ap, subst, arith}
use Rattle.std.specs.Prelude.{◌^◌}
use Rattle.tc_model.specs.Document.{Document, IsDocument}
use Rattle.tc_request_model.specs.Request.{upsert, delete}
use Rattle.tc_model.proofs.StoredDocuments.{keyless_object}
use Rattle.tc_record.specs.Record.{IsRecordOf, record_of}
use Rattle.tc_log.specs.declared.write.Write.TheVariants.{Upsert, Delete}
use Rattle.tc_machine.specs.Writes.{IsStorableWrite}
use Rattle.tc_work.specs.Asked.{IsForPart}
use Rattle.tc_work.proofs.GrownFrames.{IsWriteFor}

pub storable_upsert : (n : ℕ) (d : Document) → IsForPart (upsert n d) → IsDocument d → IsStorableWrite (n, Some d)
storable_upsert n d asked is = record { key = asked.0; document = is; storable = asked.1; short = asked.2 }

pub storable_delete : (n : ℕ) → IsForPart (delete n) → IsStorableWrite (n, None)
storable_delete n asked = record { key = asked; document = tt; storable = tt; short = tt }

-- the record is short
pub short_record : (n : ℕ) (d : Document) → IsForPart (upsert n d) → length (record_of d) < 2 ^ 32
short_record n d asked = omega (arith, asked.2)

pub record_upserted : (n : ℕ) (d : Document) (bytes : List ℕ) → IsForPart (upsert n d) → IsDocument d → bytes ≡ record_of d → IsRecordOf d bytes
record_upserted n d bytes asked is spelled = record {
  document = is;
  is_object = keyless_object d asked.1.1;
  shallow = asked.1.0;
  spelled = spelled;
  short = subst (λ (b : List ℕ). length b < 2 ^ 32) (sym spelled) (short_record n d asked);
}

pub upsert_for : (n : ℕ) (d : Document) (bytes : List ℕ) → IsForPart (upsert n d) → IsDocument d → bytes ≡ record_of d → IsWriteFor (upsert n d) (Upsert n bytes)
upsert_for n d bytes asked is spelled = record {
  lawful = record { key = asked.0; held = record { document = d; is_record = record_upserted n d bytes asked is spelled; keyless = asked.1.1 } };
  one = refl;
  bytes = omega (arith, ap length spelled);
}

pub delete_for : (n : ℕ) → n < 2 ^ 63 → IsWriteFor (delete n) (Delete n)
delete_for n low = record { lawful = record { key = low; held = tt }; one = refl; bytes = refl }
