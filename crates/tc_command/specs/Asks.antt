-- What a path and an ask mean.
use Rattle.std.specs.Prelude.{◌≡◌, ◌⊎◌, ℤ, Option, Some, None, refl}
use Rattle.std.specs.Coded.{Coded, code_by, coded_ℕ, coded_ℤ, coded_list, coded⊎, coded_option}
use Rattle.std.proofs.Common.{inl, inr}
use Rattle.tc_model.specs.Document.{Name}
use Rattle.tc_request_model.specs.Request as request
use Rattle.tc_command.specs.declared.asks.Hop.{Hop}
use Rattle.tc_command.specs.declared.asks.Hop.TheVariants.{Name as ToName, At, Any}

abbrev pub hop_of : Hop → request.Hop
hop_of (ToName name) = request.to_name name
hop_of (At place) = request.to_place place
hop_of Any = request.to_each

-- ---- codes, by which proofs tell hops apart

abbrev pub hop_parts : request.Hop → Option (Name ⊎ ℤ)
hop_parts (request.to_name name) = Some (inl name)
hop_parts (request.to_place place) = Some (inr place)
hop_parts request.to_each = None

abbrev pub hop_from : Option (Name ⊎ ℤ) → request.Hop
hop_from (Some (inl name)) = request.to_name name
hop_from (Some (inr place)) = request.to_place place
hop_from None = request.to_each

pub hop_from-hop_parts : (h : request.Hop) → hop_from (hop_parts h) ≡ h
hop_from-hop_parts (request.to_name name) = refl
hop_from-hop_parts (request.to_place place) = refl
hop_from-hop_parts request.to_each = refl

abbrev pub coded_hop : Coded request.Hop
coded_hop = code_by (Option (Name ⊎ ℤ)) (coded_option (coded⊎ (coded_list coded_ℕ) coded_ℤ)) hop_parts hop_from hop_from-hop_parts
