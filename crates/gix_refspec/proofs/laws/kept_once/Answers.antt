use Rattle.gix_refspec.proofs.Common.{by_cases, kept_once}

pub returns : Rattle.gix_refspec.proofs.laws.kept_once.Goals.returns
returns c = λ list stays. by_cases stays (λ forward. kept_once _ forward.all list forward.is)
    (λ backward. kept_once _ backward.all list backward.is)
