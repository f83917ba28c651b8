-- The codes of documents and shapes, by which proofs tell two apart.
use Rattle.std.specs.Prelude.{◌≡◌, ◌⊎◌, ℕ, zero, suc, ℤ, Bool, List, Option, Some, None, refl}
use Rattle.std.specs.Coded.{Coded, code_by, coded_ℕ, coded_ℤ, coded_bool, coded_list, coded⊎, coded_option}
use Rattle.std.proofs.Common.{inl, inr}
use Rattle.tc_model.specs.Document.{Scalar, null, boolean, integer, text, ScalarKind, null_kind, boolean_kind, integer_kind, text_kind, Document, ShapeTree}
use Rattle.tc_model.specs.TreeCode.{coded_tree}

abbrev pub scalar_parts : Scalar → Option (Bool ⊎ (ℤ ⊎ List ℕ))
scalar_parts null = None
scalar_parts (boolean b) = Some (inl b)
scalar_parts (integer z) = Some (inr (inl z))
scalar_parts (text s) = Some (inr (inr s))

abbrev pub scalar_from : Option (Bool ⊎ (ℤ ⊎ List ℕ)) → Scalar
scalar_from None = null
scalar_from (Some (inl b)) = boolean b
scalar_from (Some (inr (inl z))) = integer z
scalar_from (Some (inr (inr s))) = text s

pub scalar_from-scalar_parts : (s : Scalar) → scalar_from (scalar_parts s) ≡ s
scalar_from-scalar_parts null = refl
scalar_from-scalar_parts (boolean b) = refl
scalar_from-scalar_parts (integer z) = refl
scalar_from-scalar_parts (text s) = refl

abbrev pub coded_scalar : Coded Scalar
coded_scalar =
    code_by (Option (Bool ⊎ (ℤ ⊎ List ℕ))) (coded_option (coded⊎ coded_bool (coded⊎ coded_ℤ (coded_list coded_ℕ)))) scalar_parts scalar_from scalar_from-scalar_parts

abbrev pub kind_number : ScalarKind → ℕ
kind_number null_kind = 0
kind_number boolean_kind = 1
kind_number integer_kind = 2
kind_number text_kind = 3

abbrev pub kind_from : ℕ → ScalarKind
kind_from zero = null_kind
kind_from (suc zero) = boolean_kind
kind_from (suc (suc zero)) = integer_kind
kind_from (suc (suc (suc n))) = text_kind

pub kind_from-kind_number : (k : ScalarKind) → kind_from (kind_number k) ≡ k
kind_from-kind_number null_kind = refl
kind_from-kind_number boolean_kind = refl
kind_from-kind_number integer_kind = refl
kind_from-kind_number text_kind = refl

abbrev pub coded_document : Coded Document
coded_document = coded_tree (coded_list coded_ℕ) coded_scalar

abbrev pub coded_shape : Coded ShapeTree
coded_shape = coded_tree (coded_list coded_ℕ) (code_by ℕ coded_ℕ kind_number kind_from kind_from-kind_number)
