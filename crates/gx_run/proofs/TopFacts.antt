-- From committed maps to the images of a disk.
use Rattle.std.proofs.Common.{◌≡◌, inl, inr, ℕ, ◌≤◌, Bool, List, [], length, take, Result, Ok, Err, IfOk, refl, sym, ◌∙◌, ap, subst, arith}
use Rattle.std.proofs.lemmas.List.{append-nil}
use Rattle.gx_words.specs.Causes.{Said}
use Rattle.gx_words.specs.Image.{Image}
use Rattle.gx_words.specs.Moments.{Moment, Now, Through}
use Rattle.gx_words.specs.PageMap.{PageMap}
use Rattle.gx_disk.specs.declared.disk.Disk.{Ghosts}
use Rattle.gx_log.specs.Records.{Stands, HasMap}
use Rattle.gx_pager.specs.Left.{HasSome, MapLeft, MapSince, Follows}
use Rattle.gx_pager.specs.Openings.{Opening}
use Rattle.gx_run.proofs.PageFacts.{same_map}
use Rattle.gx_lexer.specs.Cut.{cut, statements}
use Rattle.gx_model.specs.Database.{Database}
use Rattle.gx_database.specs.Standing.{StandsFor}
use Rattle.gx_engine.specs.Engines.{checkpoint_reply}
use Rattle.gx_model.specs.Runs.{State, Done, after, any_refused}
use Rattle.gx_run.specs.Replied.{last_reply}
use Rattle.gx_run.specs.Headline.{AnyMoment, Whole, DiskFailed, AnswerFailed, LackedMemory, EndsSo}
use Rattle.gx_run.specs.Moves.{Ran, Empties, Spent}
use Rattle.gx_run.specs.Top.{ImageStands, NotBegun, Ended, Headline, ScriptHeadline}
use Rattle.gx_run.specs.Scripts.{RanScript}
use Rattle.gx_run.specs.declared.halt.Halt.{Halt}
use Rattle.gx_run.specs.declared.halt.Halt.TheVariants.{Stopped, Source, Full}
use Rattle.gx_run.specs.declared.stop.Stop.{Stop}
use Rattle.gx_run.specs.declared.stop.Stop.TheVariants.{Answer, Disk, Memory, Broken}

lift : (from : State) (before : List ℕ) (dones : List Done) (m : Moment Image) (map : PageMap) → HasMap m.image map
    → AnyMoment StandsFor from before dones (record { image = map; bytes = m.bytes }) → AnyMoment ImageStands from before dones m
lift from before dones m map pages a = record {
  k = a.k;
  within = a.within;
  left = record { map = map; pages = pages; stands = a.left };
  n = a.n;
  answered = a.answered;
}

no_reply : [] ≡ checkpoint_reply → ⊥
no_reply e = let l = ap (λ (bytes : List ℕ). length bytes) e in omega (arith, l)

emptied_at : (dones : List Done) (A B : Type 0) (result : Result Bool Stop) → IfOk result (λ refused. Empties dones A B) → IfOk result (λ refused. last_reply [] dones ≡ checkpoint_reply → B)
emptied_at dones A B (Ok refused) h = λ e. h [] (λ is. absurd (no_reply is)) e
emptied_at dones A B (Err stop) h = tt

module _ {H : Type 0} (g : Ghosts H) (tells : g.tells) (new : H) (some : (c : Image) → g.now_may_leave new c → HasSome c) where
  all : (db : Database) → ((map : PageMap) → MapLeft g new map → StandsFor map db) → (c : Image) → g.now_may_leave new c → ImageStands c db
  all db l c left =
      let h = some c left in
      record { map = h.0; pages = h.1; stands = l h.0 (tells, (c, left, h.1)) }

  pub ends : (old : H) (before : List ℕ) (from : State) (count : ℕ) (dones : List Done) (result : Result Bool Stop) → before ≡ (g.said old).bytes
      → EndsSo StandsFor (MapLeft g new) from count dones before (g.said new).bytes result → ((refused : Bool) → result ≡ Ok refused → refused ≡ any_refused dones)
      → Ended g old new from count dones result
  ends old before from count dones (Ok refused) same e r =
      let P : List ℕ → Type 0 = λ b. Whole ImageStands (g.now_may_leave new) from count dones b (g.said new).bytes in
      (subst P same (record { all = e.all; answered = e.answered; left = all _ e.left }), r refused refl)
  ends old before from count dones (Err Answer) same e r =
      let P : List ℕ → Type 0 = λ b. AnswerFailed ImageStands (g.now_may_leave new) from dones b (g.said new).bytes in
      subst P same (record { earlier = e.earlier; last = e.last; are = e.are; n = e.n; answered = e.answered; left = all _ e.left })
  ends old before from count dones (Err Disk) same e r =
      let P : List ℕ → Type 0 = λ b. DiskFailed ImageStands (g.now_may_leave new) from dones b (g.said new).bytes in
      inl (subst P same (record {
        k = e.k;
        least = e.least;
        most = e.most;
        answered = e.answered;
        left = λ c left.
            let h = some c left in
            elim (e.left h.0 (tells, (c, left, h.1))) [
              | inl s ↦ inl (record { map = h.0; pages = h.1; stands = s })
              | inr s ↦ inr (record { map = h.0; pages = h.1; stands = s })
            ];
      }))
  ends old before from count dones (Err Memory) same e r =
      let P : List ℕ → Type 0 = λ b. LackedMemory ImageStands (g.now_may_leave new) from dones b (g.said new).bytes in
      inl (subst P same (record { answered = e.answered; left = all _ e.left }))
  ends old before from count dones (Err (Broken page expected found)) same e r = e

module _ {H D : Type 0} (g : Ghosts H) (tells : g.tells) (host : D → H) (is_at : D → State → Type 0)
    (counts_now : (d : H) (t : ℕ) (c : Image) → t ≤ g.moment d → g.now_may_leave d c → g.may_have_left_since d t (record { image = c; bytes = (g.said d).bytes }))
    (only_now : (d : H) (m : Moment Image) → g.may_have_left_since d (g.moment d) m → Now (g.now_may_leave d) (g.said d).bytes m) where
  -- the file couldn't be opened
  pub not_begun : {s : ℕ} (start new : H) (from : State) (pieces : List (List ℕ)) → Opening g start new → (stop : Stop) → (NotBegun g start new → Ended g start new from (length pieces) [] (Err stop))
      → Spent from pieces [] s s (Err stop)
      → Headline g s s start new from pieces (Err stop)
  not_begun start new from pieces opening stop ended spent = record {
    dones = [];
    done = tt;
    any_moment = λ m s. inr (elim ((opening.time tells).each (g.moment start) m (omega arith) s) [ inl past ↦ only_now start m past | inr h ↦ h.0 ]);
    ended = ended (record { answered = ap (λ (s : Said). s.bytes) opening.said; left = opening.images tells });
    spent = spent;
    emptied = tt;
  }

  module _ {s t : ℕ} (start : H) (old new : D) (from : State) (pieces : List (List ℕ)) (result : Result Bool Stop) (map : PageMap)
      (opening : Opening g start (host old)) (left : (c : Image) → g.now_may_leave (host old) c → HasMap c map) (stands : StandsFor map from.session.committed)
      (follows : Follows g (host old) (host new))
      (ran : Ran (λ d. g.moment (host d)) (λ d. MapSince g (host d)) (λ d. MapLeft g (host d)) (λ d. g.said (host d)) is_at (λ d. Stands [] (g.told (host d)).log) s t old new from pieces result) where
    abbrev pub before : List ℕ
    before = (g.said (host old)).bytes

    same : before ≡ (g.said start).bytes
    same = ap (λ (s : Said). s.bytes) opening.said

    through : Through g.moment g.may_have_left_since (host old) (host new) (λ m. HasSome m.image)
    through = follows.maps tells (λ c l. (map, left c l))

    some : (c : Image) → g.now_may_leave (host new) c → HasSome c
    some c l =
        let m : Moment Image = record { image = c; bytes = (g.said (host new)).bytes } in
        let le : g.moment (host old) ≤ g.moment (host new) = follows.goes.later in
        elim (through.each (g.moment (host old)) m (omega arith) (counts_now (host new) (g.moment (host old)) c le l)) [
          | inl past ↦ (map, left c (only_now (host old) m past).0)
          | inr h ↦ h.0
        ]

    -- a moment since the file was opened
    since_opened : (m : Moment Image) (is : PageMap) → HasMap m.image is → g.may_have_left_since (host new) (g.moment (host old)) m
        → AnyMoment ImageStands from before ran.dones m
    since_opened m is pages s =
        let mm : Moment PageMap = record { image = is; bytes = m.bytes } in
        elim (ran.moments.nothing_else (g.moment (host old)) mm (omega arith) (tells, (m.image, s, pages))) [
          | inl past ↦
              let now = only_now (host old) (record { image = past.1.0; bytes = m.bytes }) past.1.1 in
              let e : is ≡ map = same_map past.1.0 is map past.1.2 (left past.1.0 now.0) in
              let P : PageMap → Type 0 = λ p. StandsFor p from.session.committed in
              record {
                k = 0;
                within = omega arith;
                left = record { map = is; pages = pages; stands = subst P (sym e) stands };
                n = 0;
                answered = now.1 ∙ sym (append-nil before);
              }
          | inr h ↦ lift from before ran.dones m is pages h.0
        ]

    refused_is : (refused : Bool) → result ≡ Ok refused → refused ≡ any_refused ran.dones
    refused_is refused e =
        let P : Result Bool Stop → Type 0 = λ r. IfOk r (λ b. (b ≡ any_refused ran.dones) × is_at new (after from ran.dones)) in
        (subst P e ran.at).0

    pub headline : Headline g s t start (host new) from pieces result
    headline = record {
      dones = ran.dones;
      done = ran.done;
      any_moment = λ m s.
          let P : List ℕ → Type 0 = λ b. AnyMoment ImageStands from b ran.dones m in
          let le : g.moment start ≤ g.moment (host old) = opening.goes.later in
          elim (through.each (g.moment start) m le s) [
            | inl past ↦ inr (elim ((opening.time tells).each (g.moment start) m (omega arith) past) [ inl first ↦ only_now start m first | inr h ↦ h.0 ])
            | inr h ↦ inl (subst P same (since_opened m h.0.0 h.0.1 (h.1 (g.moment (host old)) (omega arith))))
          ];
      ended = ends g tells (host new) some start before from (length pieces) ran.dones result same ran.ends refused_is;
      spent = ran.spent;
      emptied = emptied_at ran.dones (Stands [] (g.told (host old)).log) (Stands [] (g.told (host new)).log) result ran.empties;
    }

  -- the same for a script
  module _ (s t : ℕ) (start : H) (old new : D) (from : State) (map : PageMap)
      (opening : Opening g start (host old)) (left : (c : Image) → g.now_may_leave (host old) c → HasMap c map) (stands : StandsFor map from.session.committed)
      (follows : Follows g (host old) (host new)) where
    abbrev Part : List (List ℕ) → Result Bool Stop → Type 0
    Part pieces result = Ran (λ d. g.moment (host d)) (λ d. MapSince g (host d)) (λ d. MapLeft g (host d)) (λ d. g.said (host d)) is_at (λ d. Stands [] (g.told (host d)).log) s t old new from pieces result

    of_part : (pieces : List (List ℕ)) (result : Result Bool Stop) → Part pieces result → Headline g s t start (host new) from pieces result
    of_part pieces result ran = headline start old new from pieces result map opening left stands follows ran

    pub script_headline : (limit : ℕ) (script rest : List ℕ) (result : Result Bool Halt)
        → RanScript (λ d. g.moment (host d)) (λ d. MapSince g (host d)) (λ d. MapLeft g (host d)) (λ d. g.said (host d)) is_at (λ d. Stands [] (g.told (host d)).log) s t old new from limit script rest result
        → ScriptHeadline g s t start (host new) from limit script rest result
    script_headline limit script rest (Ok refused) r = (of_part (statements script) (Ok refused) r.0, r.1, r.2)
    script_headline limit script rest (Err (Stopped stop)) r = (of_part (statements script) (Err stop) r.0, r.1)
    script_headline limit script rest (Err Source) r = (r.0, r.1, r.2, r.3.0, of_part (cut r.0).pieces (Ok r.3.0) r.3.1)
    script_headline limit script rest (Err Full) r = (r.0, r.1.0, of_part (cut (take limit script)).pieces (Ok r.1.0) r.1.1)
