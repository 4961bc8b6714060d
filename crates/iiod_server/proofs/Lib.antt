mod HubCrossing
