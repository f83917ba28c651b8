-- The version that a file tells.
use Rattle.std.proofs.Common.{◌≡◌, ◌∙◌, ◌<◌, ◌^◌, ℕ, Bool, true, false, List, ◌∷◌, ◌++◌, get_or, inl, inr, refl, sym, ap, subst, arith}
use Rattle.std.specs.Prelude.{◌==◌, ◌&&◌, nat_lt, if◌then◌else◌, All, length}
use Rattle.std.proofs.lemmas.Bool.Decides.{nat_tests}
use Rattle.tc_lsm_model.specs.Contents.{Content, IsContent}
use Rattle.tc_component.specs.Layout.{number_end}
use Rattle.tc_component.specs.Reading.{is_magic, version_told, version_of}
use Rattle.tc_component.specs.Rows.{component_bytes, component_bytes_as, component_index, IsComponent, IsIndexOf, IsShortWrite}
use Rattle.tc_component.specs.Spelling.{Index, Holds, IsVersion, magic_of, written_version, head_bytes, sizes_in, directory, file_with}
use Rattle.tc_names.specs.Section.{section}
use Rattle.tc_schema_model.specs.SchemaBytes.{schema_bytes}
use Rattle.tc_schema_model.specs.SchemaTree.{schema_tree}

pub told_version : (front : List ℕ) → IsVersion (version_told front)
told_version front = by_test (nat_lt 3 (length front) && get_or front 3 0 == 0x32)
  where
    by_test : (b : Bool) → IsVersion (if b then 2 else 1)
    by_test true = inr refl
    by_test false = inl refl

-- the mark of a version has 32 bits, and passes its test
pub magic_small : (version : ℕ) → IsVersion version → magic_of version < 2 ^ 32
magic_small version (inl is) = omega (arith, is)
magic_small version (inr is) = omega (arith, is)

pub magic_again : (version : ℕ) → is_magic version (magic_of version) ≡ true
magic_again version = let same : (magic_of version == magic_of version) ≡ true = grind (arith, nat_tests) in same

-- the version of what a file holds is the one that it tells
pub holds_version : (bytes : List ℕ) (c : Index) → Holds bytes c → version_of bytes ≡ c.version
holds_version bytes c holds = ap version_of holds.spelled ∙ by_version holds.is.version
  where
    by_version : IsVersion c.version → version_of (file_with c holds.records) ≡ c.version
    by_version (inl is) = subst (λ (v : ℕ). version_of (1 ∷ (head_bytes v c.head (sizes_in c) ++ (holds.records ++ (directory c.slots ++ (section c.names ++ schema_bytes (schema_tree c.schema)))))) ≡ v) (sym is) refl
    by_version (inr is) = subst (λ (v : ℕ). version_of (1 ∷ (head_bytes v c.head (sizes_in c) ++ (holds.records ++ (directory c.slots ++ (section c.names ++ schema_bytes (schema_tree c.schema)))))) ≡ v) (sym is) refl

-- what is written tells the version that is written
pub written_tells : (c : Content) → version_of (component_bytes c) ≡ written_version
written_tells c = refl

pub written_component : (c : Content) (bytes : List ℕ) → IsContent c → All IsShortWrite c.entries → bytes ≡ component_bytes c → length bytes < number_end → IsComponent c bytes
written_component c bytes content records same short = record {
  content = content;
  records = records;
  spelled = same ∙ ap (λ (v : ℕ). component_bytes_as v c) (sym (ap version_of same ∙ written_tells c));
  short = short;
}

-- what a component has beside its records tells its version
pub of_version : (index : Index) (version : ℕ) (c : Content) → index ≡ component_index version c → IsIndexOf index c
of_version index version c same = same ∙ ap (λ (v : ℕ). component_index v c) (sym (ap (λ (i : Index). i.version) same))
