use Rattle.std.proofs.Common.{◌≡◌, ◌∙◌, ◌∷◌, ◌++◌, [], length, map, arith, ap, ap₂, subst, sym}
use Rattle.std.proofs.lemmas.List.{length-map, map-append}
use Rattle.tc_work.specs.Moving.{eyes}
use Rattle.tc_keeper.specs.WithJobs.{engine_with, with_jobs, AreStaffed, IsStaffed}
use Rattle.tc_keeper.specs.declared.seat.Seat.{Seat}
use Rattle.tc_keeper.proofs.JobsBeside.{staffed-front, staffed-last, staffed-many, with_jobs-append}
use Rattle.tc_keeper.proofs.engines.Engines.pop.Given.{Over}
use Rattle.tc_keeper.proofs.engines.Engines.pop.Goals as goal

pub unreachable-requires : goal.unreachable-requires
unreachable-requires g c =
    let many : length c.self.inside.seats.items ≡ length c.self.inside.running.items = sym
    (length-map c.self.inside.seats.items (λ (s : Seat g.row.S.Denot g.row.P.Denot g.row.S-Watch.Denot g.row.S-Device.Denot g.row.S-Frozen.Denot). s.engine))
    ∙ staffed-many (eyes g.S.Store.history g.S.Device.Device.history g.S.Frozen.Frozen.content g.S.Device.Device.name g.S.Frozen.Frozen.size
    g.S.Watch.Watch.counts) (map (λ (s : Seat g.row.S.Denot g.row.P.Denot g.row.S-Watch.Denot g.row.S-Device.Denot g.row.S-Frozen.Denot). s.engine)
    c.self.inside.seats.items) c.self.inside.running.items c.self.invariant in
    omega (arith, many, c.self.inside.seats.ok.0, c.self.inside.running.ok.0, c.in-Some.ensures.cases, c.in-None-pop.ensures.cases.0)

-- the engine that is taken stood behind the others, and so did its jobs
engines_were : (g : Over) (c : goal.After-into_engine g) → map
    (λ (s : Seat g.row.S.Denot g.row.P.Denot g.row.S-Watch.Denot g.row.S-Device.Denot g.row.S-Frozen.Denot). s.engine) c.self.inside.seats.items
    ≡ map (λ (s : Seat g.row.S.Denot g.row.P.Denot g.row.S-Watch.Denot g.row.S-Device.Denot g.row.S-Frozen.Denot). s.engine) c.pop.new.self.items ++
    c.in-Some.seat.engine ∷ []
engines_were g c = ap (map (λ (s : Seat g.row.S.Denot g.row.P.Denot g.row.S-Watch.Denot g.row.S-Device.Denot g.row.S-Frozen.Denot). s.engine)) c.in-Some.ensures.items
    ∙ map-append (λ (s : Seat g.row.S.Denot g.row.P.Denot g.row.S-Watch.Denot g.row.S-Device.Denot g.row.S-Frozen.Denot). s.engine) c.pop.new.self.items
    (c.in-Some.seat ∷ [])

were_staffed : (g : Over) (c : goal.After-into_engine g) → AreStaffed
    (eyes g.S.Store.history g.S.Device.Device.history g.S.Frozen.Frozen.content g.S.Device.Device.name g.S.Frozen.Frozen.size g.S.Watch.Watch.counts)
    (map (λ (s : Seat g.row.S.Denot g.row.P.Denot g.row.S-Watch.Denot g.row.S-Device.Denot g.row.S-Frozen.Denot). s.engine) c.pop.new.self.items ++
    c.in-Some.seat.engine ∷ []) (c.pop-in-Some.new.self.items ++ c.in-Some-pop.running ∷ [])
were_staffed g c = subst (λ es. AreStaffed (eyes g.S.Store.history g.S.Device.Device.history g.S.Frozen.Frozen.content g.S.Device.Device.name g.S.Frozen.Frozen.size
    g.S.Watch.Watch.counts) es (c.pop-in-Some.new.self.items ++ c.in-Some-pop.running ∷ [])) (engines_were g c)
    (subst (AreStaffed (eyes g.S.Store.history g.S.Device.Device.history g.S.Frozen.Frozen.content g.S.Device.Device.name g.S.Frozen.Frozen.size
    g.S.Watch.Watch.counts) (map (λ (s : Seat g.row.S.Denot g.row.P.Denot g.row.S-Watch.Denot g.row.S-Device.Denot g.row.S-Frozen.Denot). s.engine)
    c.self.inside.seats.items)) c.in-Some-pop.ensures.items c.self.invariant)

pub invariant_of-self : goal.invariant_of-self
invariant_of-self g c = staffed-front (eyes g.S.Store.history g.S.Device.Device.history g.S.Frozen.Frozen.content g.S.Device.Device.name g.S.Frozen.Frozen.size
    g.S.Watch.Watch.counts) (map (λ (s : Seat g.row.S.Denot g.row.P.Denot g.row.S-Watch.Denot g.row.S-Device.Denot g.row.S-Frozen.Denot). s.engine)
    c.pop.new.self.items) c.pop-in-Some.new.self.items c.in-Some.seat.engine c.in-Some-pop.running (were_staffed g c)

taken_staffed : (g : Over) (c : goal.After-into_engine g) → IsStaffed (eyes g.S.Store.history g.S.Device.Device.history g.S.Frozen.Frozen.content g.S.Device.Device.name g.S.Frozen.Frozen.size g.S.Watch.Watch.counts) c.into_engine.result c.in-Some-pop.running
taken_staffed g c = subst (λ e. IsStaffed (eyes g.S.Store.history g.S.Device.Device.history g.S.Frozen.Frozen.content g.S.Device.Device.name g.S.Frozen.Frozen.size
    g.S.Watch.Watch.counts) e c.in-Some-pop.running) (sym c.into_engine.ensures)
    (staffed-last (eyes g.S.Store.history g.S.Device.Device.history g.S.Frozen.Frozen.content g.S.Device.Device.name g.S.Frozen.Frozen.size g.S.Watch.Watch.counts)
    (map (λ (s : Seat g.row.S.Denot g.row.P.Denot g.row.S-Watch.Denot g.row.S-Device.Denot g.row.S-Frozen.Denot). s.engine) c.pop.new.self.items)
    c.pop-in-Some.new.self.items c.in-Some.seat.engine c.in-Some-pop.running (were_staffed g c))

pub returns-in-Some-pop-clause-last : goal.returns-in-Some-pop-clause-last
returns-in-Some-pop-clause-last g c =
    sym c.self.view_is ∙ ap₂ with_jobs (engines_were g c) c.in-Some-pop.ensures.items
    ∙ with_jobs-append (map (λ (s : Seat g.row.S.Denot g.row.P.Denot g.row.S-Watch.Denot g.row.S-Device.Denot g.row.S-Frozen.Denot). s.engine) c.pop.new.self.items)
    (c.in-Some.seat.engine ∷ []) c.pop-in-Some.new.self.items (c.in-Some-pop.running ∷ [])
    (staffed-many (eyes g.S.Store.history g.S.Device.Device.history g.S.Frozen.Frozen.content g.S.Device.Device.name g.S.Frozen.Frozen.size g.S.Watch.Watch.counts)
    (map (λ (s : Seat g.row.S.Denot g.row.P.Denot g.row.S-Watch.Denot g.row.S-Device.Denot g.row.S-Frozen.Denot). s.engine) c.pop.new.self.items)
    c.pop-in-Some.new.self.items (staffed-front (eyes g.S.Store.history g.S.Device.Device.history g.S.Frozen.Frozen.content g.S.Device.Device.name
    g.S.Frozen.Frozen.size g.S.Watch.Watch.counts) (map (λ (s : Seat g.row.S.Denot g.row.P.Denot g.row.S-Watch.Denot g.row.S-Device.Denot g.row.S-Frozen.Denot).
    s.engine) c.pop.new.self.items) c.pop-in-Some.new.self.items c.in-Some.seat.engine c.in-Some-pop.running (were_staffed g c)))
    ∙ ap (λ e. with_jobs (map (λ (s : Seat g.row.S.Denot g.row.P.Denot g.row.S-Watch.Denot g.row.S-Device.Denot g.row.S-Frozen.Denot). s.engine) c.pop.new.self.items) c.pop-in-Some.new.self.items ++ engine_with e c.in-Some-pop.running ∷ []) (sym c.into_engine.ensures)

pub returns-in-Some-pop-clause-jobs : goal.returns-in-Some-pop-clause-jobs
returns-in-Some-pop-clause-jobs g c = (taken_staffed g c).out

pub returns-in-Some-pop-clause-ready : goal.returns-in-Some-pop-clause-ready
returns-in-Some-pop-clause-ready g c = (taken_staffed g c).ready

pub returns-in-Some-pop-clause-devices : goal.returns-in-Some-pop-clause-devices
returns-in-Some-pop-clause-devices g c = (taken_staffed g c).devices
