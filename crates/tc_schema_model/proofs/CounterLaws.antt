-- Counters with some values of a kind more or less.
use Rattle.std.proofs.Common.{◌≡◌, ℕ, ◌+◌, ◌≤◌, if◌then◌else◌, arith}
use Rattle.tc_model.specs.Document.{null_kind, boolean_kind, integer_kind, text_kind}
use Rattle.tc_model.specs.Kinds.{Kind, scalar, arrays, objects, is_kind}
use Rattle.tc_schema_model.specs.Counted.{Counters, counter, total}
use Rattle.tc_schema_model.specs.Added.{raised, lowered}

-- what holds of each of the six kinds
pub each_kind : (P : Kind → Type 0) → P (scalar null_kind) → P (scalar boolean_kind) → P (scalar integer_kind) → P (scalar text_kind) → P arrays → P objects → (t : Kind) → P t
each_kind P a b c d e f (scalar null_kind) = a
each_kind P a b c d e f (scalar boolean_kind) = b
each_kind P a b c d e f (scalar integer_kind) = c
each_kind P a b c d e f (scalar text_kind) = d
each_kind P a b c d e f arrays = e
each_kind P a b c d e f objects = f

pub total-raised : (k : Kind) (n : ℕ) (c : Counters) → total (raised k n c) ≡ total c + n
total-raised k n c = each_kind (λ k. total (raised k n c) ≡ total c + n) (omega arith) (omega arith) (omega arith) (omega arith) (omega arith) (omega arith) k

pub counter-raised : (k : Kind) (n : ℕ) (c : Counters) (t : Kind) → counter (raised k n c) t ≡ counter c t + (if is_kind k t then n else 0)
counter-raised k n c t =
    each_kind (λ k. counter (raised k n c) t ≡ counter c t + (if is_kind k t then n else 0))
    (each_kind (λ t. counter (raised (scalar null_kind) n c) t ≡ counter c t + (if is_kind (scalar null_kind) t then n else 0)) (omega arith) (omega arith) (omega arith) (omega arith) (omega arith) (omega arith) t)
    (each_kind (λ t. counter (raised (scalar boolean_kind) n c) t ≡ counter c t + (if is_kind (scalar boolean_kind) t then n else 0)) (omega arith) (omega arith) (omega arith) (omega arith) (omega arith) (omega arith) t)
    (each_kind (λ t. counter (raised (scalar integer_kind) n c) t ≡ counter c t + (if is_kind (scalar integer_kind) t then n else 0)) (omega arith) (omega arith) (omega arith) (omega arith) (omega arith) (omega arith) t)
    (each_kind (λ t. counter (raised (scalar text_kind) n c) t ≡ counter c t + (if is_kind (scalar text_kind) t then n else 0)) (omega arith) (omega arith) (omega arith) (omega arith) (omega arith) (omega arith) t)
    (each_kind (λ t. counter (raised arrays n c) t ≡ counter c t + (if is_kind arrays t then n else 0)) (omega arith) (omega arith) (omega arith) (omega arith) (omega arith) (omega arith) t)
    (each_kind (λ t. counter (raised objects n c) t ≡ counter c t + (if is_kind objects t then n else 0)) (omega arith) (omega arith) (omega arith) (omega arith) (omega arith) (omega arith) t)
    k

pub counter-lowered : (k : Kind) (n : ℕ) (c : Counters) → n ≤ counter c k → (t : Kind) → counter (lowered k n c) t + (if is_kind k t then n else 0) ≡ counter c t
counter-lowered k n c enough t =
    each_kind (λ k. n ≤ counter c k → counter (lowered k n c) t + (if is_kind k t then n else 0) ≡ counter c t)
    (λ h. each_kind (λ t. counter (lowered (scalar null_kind) n c) t + (if is_kind (scalar null_kind) t then n else 0) ≡ counter c t) (omega arith) (omega arith) (omega arith) (omega arith) (omega arith) (omega arith) t)
    (λ h. each_kind (λ t. counter (lowered (scalar boolean_kind) n c) t + (if is_kind (scalar boolean_kind) t then n else 0) ≡ counter c t) (omega arith) (omega arith) (omega arith) (omega arith) (omega arith) (omega arith) t)
    (λ h. each_kind (λ t. counter (lowered (scalar integer_kind) n c) t + (if is_kind (scalar integer_kind) t then n else 0) ≡ counter c t) (omega arith) (omega arith) (omega arith) (omega arith) (omega arith) (omega arith) t)
    (λ h. each_kind (λ t. counter (lowered (scalar text_kind) n c) t + (if is_kind (scalar text_kind) t then n else 0) ≡ counter c t) (omega arith) (omega arith) (omega arith) (omega arith) (omega arith) (omega arith) t)
    (λ h. each_kind (λ t. counter (lowered arrays n c) t + (if is_kind arrays t then n else 0) ≡ counter c t) (omega arith) (omega arith) (omega arith) (omega arith) (omega arith) (omega arith) t)
    (λ h. each_kind (λ t. counter (lowered objects n c) t + (if is_kind objects t then n else 0) ≡ counter c t) (omega arith) (omega arith) (omega arith) (omega arith) (omega arith) (omega arith) t)
    k enough
