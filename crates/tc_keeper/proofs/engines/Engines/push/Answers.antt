use Rattle.std.proofs.Common.{◌≡◌, ◌∙◌, ◌∷◌, ◌++◌, [], map, ap, ap₂, subst, sym}
use Rattle.std.proofs.lemmas.List.{map-append}
use Rattle.tc_work.specs.Moving.{eyes}
use Rattle.tc_keeper.specs.WithJobs.{engine_with, no_jobs, with_jobs, AreStaffed}
use Rattle.tc_keeper.specs.declared.seat.Seat.{Seat}
use Rattle.tc_keeper.proofs.JobsBeside.{staffed-append, staffed-many, with_jobs-append}
use Rattle.tc_keeper.proofs.engines.Engines.push.Given.{Over}
use Rattle.tc_keeper.proofs.engines.Engines.push.Goals as goal

seats_now : (g : Over) (c : goal.After-push_reserved-in-Ok-reserve g)
    → map (λ (s : Seat g.row.S.Denot g.row.P.Denot g.row.S-Watch.Denot g.row.S-Device.Denot g.row.S-Frozen.Denot). s.engine) c.push_reserved.new.self.items
    ≡ map (λ (s : Seat g.row.S.Denot g.row.P.Denot g.row.S-Watch.Denot g.row.S-Device.Denot g.row.S-Frozen.Denot). s.engine) c.self.inside.seats.items
    ++ c.args.engine ∷ []
seats_now g c =
    ap (map (λ (s : Seat g.row.S.Denot g.row.P.Denot g.row.S-Watch.Denot g.row.S-Device.Denot g.row.S-Frozen.Denot). s.engine)) (c.push_reserved.ensures.items ∙ ap (λ seats. seats ++ c.of.result ∷ []) c.reserve.ensures.items)
    ∙ map-append (λ (s : Seat g.row.S.Denot g.row.P.Denot g.row.S-Watch.Denot g.row.S-Device.Denot g.row.S-Frozen.Denot). s.engine) c.self.inside.seats.items (c.of.result ∷ [])
    ∙ ap (λ e. map (λ (s : Seat g.row.S.Denot g.row.P.Denot g.row.S-Watch.Denot g.row.S-Device.Denot g.row.S-Frozen.Denot). s.engine) c.self.inside.seats.items ++ e ∷ []) c.of.ensures

running_now : (g : Over) (c : goal.After-push_reserved-in-Ok-reserve g) → c.push_reserved-in-Ok-reserve.new.self.items ≡ c.self.inside.running.items ++ no_jobs ∷ []
running_now g c = c.push_reserved-in-Ok-reserve.ensures.items ∙ ap₂ (λ running jobs. running ++ jobs ∷ []) c.reserve-in-Ok.ensures.items c.new.ensures

pub returns-in-Ok-reserve-clause-pushed : goal.returns-in-Ok-reserve-clause-pushed
returns-in-Ok-reserve-clause-pushed g c =
    ap₂ with_jobs (seats_now g c) (running_now g c)
    ∙ with_jobs-append (map (λ (s : Seat g.row.S.Denot g.row.P.Denot g.row.S-Watch.Denot g.row.S-Device.Denot g.row.S-Frozen.Denot). s.engine)
    c.self.inside.seats.items) (c.args.engine ∷ []) c.self.inside.running.items (no_jobs ∷ [])
    (staffed-many (eyes g.S.Store.history g.S.Device.Device.history g.S.Frozen.Frozen.content g.S.Device.Device.name g.S.Frozen.Frozen.size g.S.Watch.Watch.counts)
    (map (λ (s : Seat g.row.S.Denot g.row.P.Denot g.row.S-Watch.Denot g.row.S-Device.Denot g.row.S-Frozen.Denot). s.engine) c.self.inside.seats.items)
    c.self.inside.running.items c.self.invariant)
    ∙ ap (λ es. es ++ engine_with c.args.engine no_jobs ∷ []) c.self.view_is

pub invariant_of-self : goal.invariant_of-self
invariant_of-self g c =
    subst (λ es. AreStaffed (eyes g.S.Store.history g.S.Device.Device.history g.S.Frozen.Frozen.content g.S.Device.Device.name g.S.Frozen.Frozen.size g.S.Watch.Watch.counts) es c.push_reserved-in-Ok-reserve.new.self.items) (sym (seats_now g c))
    (subst (AreStaffed (eyes g.S.Store.history g.S.Device.Device.history g.S.Frozen.Frozen.content g.S.Device.Device.name g.S.Frozen.Frozen.size
    g.S.Watch.Watch.counts) (map (λ (s : Seat g.row.S.Denot g.row.P.Denot g.row.S-Watch.Denot g.row.S-Device.Denot g.row.S-Frozen.Denot). s.engine)
    c.self.inside.seats.items ++ c.args.engine ∷ [])) (sym (running_now g c))
    (staffed-append (eyes g.S.Store.history g.S.Device.Device.history g.S.Frozen.Frozen.content g.S.Device.Device.name g.S.Frozen.Frozen.size g.S.Watch.Watch.counts)
    (map (λ (s : Seat g.row.S.Denot g.row.P.Denot g.row.S-Watch.Denot g.row.S-Device.Denot g.row.S-Frozen.Denot). s.engine) c.self.inside.seats.items)
    c.self.inside.running.items c.args.engine no_jobs c.self.invariant (record { out = c.requires.no_jobs; ready = c.requires.ready; devices = c.requires.devices })))
