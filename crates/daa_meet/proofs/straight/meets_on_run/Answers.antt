use Rattle.daa_meet.proofs.straight.meets_on_run.Goals as goal

pub returns : goal.returns
returns c settings own candidate run =
    let o = c.relative_run.ensures.seconds settings own candidate c.args.volume.now run in
    ((λ t. o.0 (c.violates_on.ensures.0 t)), (λ m. c.violates_on.ensures.1 (o.1 m)))
