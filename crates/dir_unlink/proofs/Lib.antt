pub mod UnlinkLaws
