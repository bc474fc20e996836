-- The packets of a section become steps, one after another.
use Rattle.std.proofs.Common.{◌≡◌, ℕ, ◌<◌, nat_lt, Bool, true, ◌&&◌, List, Vec, [], ◌∷◌, ◌++◌, length, map, refl, sym, ap, subst, ◌∙◌, arith, append_assoc}
use Rattle.std.specs.Cmp.{first_so, second_so}
use Rattle.std.specs.List.{list_all}
use Rattle.std.proofs.lemmas.List.{append-nil, map-append}
use Rattle.std.proofs.lemmas.List.Folds.{list_all-append}
use Rattle.std.specs.declared.alloc.Global.{Global}
use Rattle.std.specs.declared.option.Option.TheVariants.{None, Some}
use Rattle.std.specs.declared.result.Result.{Result}
use Rattle.std.specs.declared.result.Result.TheVariants.{Ok, Err}
use Rattle.std.proofs.lemmas.Bool.{ltb-true}
use Rattle.br_model.specs.declared.capture.Packet.{Packet}
use Rattle.br_model.specs.declared.steps.Step.{Step}
use Rattle.br_model.specs.Wire.Captures.{Capture, Fault, capture, in_front, packets, unless_broken}
use Rattle.br_model.specs.Text.Roster.{Entry, chips_of}
use Rattle.br_model.specs.Text.Scenario.{entered}
use Rattle.pcapng_read.specs.declared.fault.CapFault.{CapFault}
use Rattle.pcapng_read.specs.declared.fault.CapFault.TheVariants.{At, NoMemory}
use Rattle.pcapng_read.specs.Telling.{TellsNext}
use Rattle.scenario_reader.specs.Section.{ComeByLine, Gives}
use Rattle.br_model.specs.Text.LineForms.{comes_by_line}

abbrev pub has_port : ℕ → Packet → Bool
has_port ports packet = nat_lt packet.interface ports

-- the steps of the first packets, and what is left of the capture
pub record SoFar (ports : List Entry) (section : List ℕ) (steps : List Step) (left : Capture) : Type 0 where
  pub read : List Packet
  pub parts : capture (length ports) section ≡ record { packets = read ++ left.packets; fault = left.fault }
  pub are_steps : steps ≡ map (entered ports) read
  pub by_line : ComeByLine (chips_of ports) steps
  pub have_ports : list_all (has_port (length ports)) left.packets ≡ true

pub begun : (ports : List Entry) (section : List ℕ) (left : Capture) → left ≡ capture (length ports) section → list_all (has_port (length ports)) left.packets ≡ true → SoFar ports section [] left
begun ports section left is have = record { read = []; parts = sym is; are_steps = refl; by_line = λ check. refl; have_ports = have }

module _ (ports : List Entry) (section : List ℕ) (steps : List Step) (left : Capture) (s : SoFar ports section steps left) where
  -- one more

  module _ (packet : Packet) (new : Capture) (next : left ≡ in_front (Some packet) new) where
    these : list_all (has_port (length ports)) (packet ∷ new.packets) ≡ true
    these = ap (λ (c : Capture). list_all (has_port (length ports)) c.packets) (sym next) ∙ s.have_ports

    pub more : SoFar ports section (steps ++ entered ports packet ∷ []) new
    more = record {
      read = s.read ++ packet ∷ [];
      parts =
          s.parts
          ∙ ap (λ (c : Capture). record { packets = s.read ++ c.packets; fault = c.fault }) next
          ∙ ap (λ (ps : List Packet). record { packets = ps; fault = new.fault }) (sym (append_assoc s.read (packet ∷ []) new.packets));
      are_steps = ap (λ (l : List Step). l ++ entered ports packet ∷ []) s.are_steps ∙ sym (map-append (entered ports) s.read (packet ∷ []));
      by_line = λ check. list_all-append (comes_by_line check (chips_of ports)) steps (entered ports packet ∷ []) ∙ ap (λ b. b && true) (s.by_line check);
      have_ports = second_so _ _ these;
    }

    pub has_its_port : packet.interface < length ports
    has_its_port = ltb-true packet.interface (length ports) (first_so _ _ these)

    pub fewer : length new.packets < length left.packets
    fewer = omega (arith, ap (λ (c : Capture). length c.packets) next)

  pub all_read : left ≡ record { packets = []; fault = None } → (ps : List Packet) × (packets section (length ports) ≡ Ok ps) × (steps ≡ map (entered ports) ps)
  all_read none =
      let whole : capture (length ports) section ≡ record { packets = s.read; fault = None } =
      s.parts ∙ ap (λ (c : Capture). record { packets = s.read ++ c.packets; fault = c.fault }) none ∙ ap (λ (ps : List Packet). record { packets = ps; fault = None }) (append-nil s.read) in
      (s.read, ap (λ (c : Capture). unless_broken c c.fault) whole, s.are_steps)

  pub is_broken : (fault : Fault) → left ≡ record { packets = []; fault = Some fault } → packets section (length ports) ≡ Err fault
  is_broken fault broken = ap (λ (c : Capture). unless_broken c c.fault) (s.parts ∙ ap (λ (c : Capture). record { packets = s.read ++ c.packets; fault = c.fault }) broken)

  pub faulty : (fault : CapFault) (new : Capture) (result : Result (Vec Step Global) CapFault) → result ≡ Err fault → TellsNext left (Err fault) new → Gives ports section result
  faulty (At offset kind) new result is told = subst (Gives ports section) (sym is) (is_broken (record { at = offset; kind = kind }) told.0)
  faulty NoMemory new result is told = subst (Gives ports section) (sym is) tt
